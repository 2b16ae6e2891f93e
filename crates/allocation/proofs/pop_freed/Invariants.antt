-- `allocation::pop_freed`: what is popped of those left is what is popped of all. Assumes nothing.
use mathlib.Core.Path.{◌≡◌}
use Rattle.allocation.specs.Allocation.{popped}
use Rattle.allocation.proofs.pop_freed.Given as goal

abbrev pub invariant-loop-left : goal.invariant-loop-left
invariant-loop-left l = popped l.counters l.list l.counters.freed_registers ≡ popped l.counters l.list l.left

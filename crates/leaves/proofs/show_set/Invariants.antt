-- `leaves::show_set`: the lent bytes keep their length over the walk of all registers. Assumes nothing.
use Prim.Native.Nat.{◌-◌}
use mathlib.Core.Path.{◌≡◌}
use lib.ListN.{length}
use Rattle.leaves.proofs.show_set.Given as goal

abbrev pub invariant-loop-r : goal.invariant-loop-r
invariant-loop-r l = length l.out ≡ length l.initial.out

abbrev pub decreases-loop-r : goal.decreases-loop-r
decreases-loop-r l = 64 - l.r

-- `leaves::read_input`: no more came than there is room for, and each turn leaves less room. Assumes nothing.
use Rattle.std.proofs.Common.{◌≡◌, ◌-◌, ◌≤◌, length}
use Rattle.leaves.proofs.read_input.Given as goal

abbrev pub invariant-loop-came : goal.invariant-loop-came
invariant-loop-came g l = (length l.input ≡ length l.initial.input) × (l.came ≤ length l.input)

abbrev pub decreases-loop-came : goal.decreases-loop-came
decreases-loop-came g l = length l.initial.input - l.came

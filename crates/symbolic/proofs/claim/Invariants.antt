-- `symbolic::claim`: what is left of the arguments gives, from here on, what all of them give from the start. The measure is how
-- many cells are left. Assumes nothing.
use Rattle.std.proofs.Common.{◌≡◌, ◌≤◌, ◌-◌, length, drop}
use Rattle.classes.specs.Classes.{pairs_of}
use Rattle.symbolic.specs.Symbolic.{claimed}
use Rattle.symbolic.proofs.claim.Given as goal

abbrev pub invariant-loop-i : goal.invariant-loop-i
invariant-loop-i l =
    (l.i ≤ length l.arguments)
    × (claimed l.places l.claims (pairs_of (drop l.i l.arguments)) ≡ claimed l.places l.initial.claims (pairs_of l.arguments))

abbrev pub decreases-loop-i : goal.decreases-loop-i
decreases-loop-i l = length l.arguments - l.i

-- `symbolic::spoil`: the registers passed are spoilt. Assumes nothing.
use Rattle.std.proofs.Common.{◌≡◌, ◌-◌}
use Rattle.symbolic.specs.Symbolic.{spoilt_up_to}
use Rattle.symbolic.proofs.spoil.Given as goal

abbrev pub invariant-loop-r : goal.invariant-loop-r
invariant-loop-r l = l.places ≡ spoilt_up_to l.call (l.r - 1) l.initial.places

-- `branches::meet`: from a level on those removed make of the sets so far what all those removed make.
-- Assumes nothing.
use Prim.Native.Nat.{◌-◌}
use mathlib.Core.Path.{◌≡◌}
use Rattle.notation.specs.Lists.{numbers_from}
use Rattle.branches.specs.Lists.{each}
use Rattle.branches.specs.Branches.{shallow_joined, deep_joined}
use Rattle.branches.proofs.meet.Given as goal

abbrev pub invariant-loop-level : goal.invariant-loop-level
invariant-loop-level l =
    (each (shallow_joined l.stack.rows l.stack.sets) l.shallow (numbers_from l.level (l.open_branches - l.level)) ≡ each (shallow_joined l.stack.rows l.stack.sets) l.initial.shallow (numbers_from l.left (l.open_branches - l.left)))
    × (each (deep_joined l.stack.rows l.stack.sets) l.deep (numbers_from l.level (l.open_branches - l.level)) ≡ each (deep_joined l.stack.rows l.stack.sets) l.initial.deep (numbers_from l.left (l.open_branches - l.left)))

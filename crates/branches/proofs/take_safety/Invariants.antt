-- `branches::take_safety`: from v on the members make of the sets so far what all members make.
-- Assumes nothing.
use mathlib.Core.Path.{◌≡◌}
use Rattle.branches.specs.Lists.{members, members_from, each}
use Rattle.branches.specs.Branches.{shallow_taken, deep_taken}
use Rattle.branches.proofs.take_safety.Given as goal

abbrev pub invariant-loop-v : goal.invariant-loop-v
invariant-loop-v l =
    (each (shallow_taken l.records l.top) l.shallow (members_from l.top.subsumed_hits l.v) ≡ each (shallow_taken l.records l.top) l.top.shallow_safety (members l.top.subsumed_hits))
    × (each (deep_taken l.records l.top) l.deep (members_from l.top.subsumed_hits l.v) ≡ each (deep_taken l.records l.top) l.top.deep_safety (members l.top.subsumed_hits))

-- `branches::pend_members`: from v on the members make of the records so far what all members make.
-- Assumes nothing.
use mathlib.Core.Path.{◌≡◌}
use Rattle.branches.specs.Lists.{members, members_from, each}
use Rattle.branches.specs.Branches.{variable_pended}
use Rattle.branches.proofs.pend_members.Given as goal

abbrev pub invariant-loop-v : goal.invariant-loop-v
invariant-loop-v l = each variable_pended l.records (members_from l.set l.v) ≡ each variable_pended l.initial.records (members l.set)

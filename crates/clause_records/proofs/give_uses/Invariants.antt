-- `clause_records::give_uses`: from entry i on the list makes of the use sets so far what the whole list makes.
-- Assumes nothing.
use mathlib.Core.Path.{◌≡◌}
use lib.ListN.{drop}
use Rattle.branches.specs.Lists.{each}
use Rattle.clause_records.specs.ClauseRecords.{with_use}
use Rattle.clause_records.proofs.give_uses.Given as goal

abbrev pub invariant-loop-code : goal.invariant-loop-code
invariant-loop-code l =
    each (with_use l.v) l.sets (drop l.code-index l.uses) ≡ each (with_use l.v) l.initial.sets l.uses

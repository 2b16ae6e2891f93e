-- `clause_records::give_uses`: from entry i on the list makes of the use sets so far what the whole list makes.
-- Assumes nothing.
use mathlib.Core.Path.{refl}
use Rattle.branches.specs.ListLaws.{each_entry, each-end}
use Rattle.clause_records.specs.ClauseRecords.{uses_given}
use Rattle.clause_records.specs.ClauseRecordsLaws.{use_added}
use Rattle.clause_records.proofs.give_uses.Goals as goal

pub loop-code-init : goal.loop-code-init
loop-code-init c = refl

pub loop-code-preserved : goal.loop-code-preserved
loop-code-preserved c =
    let l = c.loop-code in
    each_entry _ _ l.code-index l.invariant c.loop-code-test.true (use_added l.sets c.add_use.ensures)

pub returns : goal.returns
unfolding uses_given
returns c = let l = c.loop-code in each-end _ _ l.code-index l.invariant c.loop-code-test.false

-- `clause_records::add_temp`: the rows of the record are put, and then its uses. Assumes nothing.
use borrow.Author.Tests.{le-leb}
use Rattle.clause_records.specs.ClauseRecords.{temp_recorded}
use Rattle.clause_records.specs.ClauseRecordsLaws.{temp_made}
use Rattle.clause_records.proofs.add_temp.Goals as goal

pub returns-then-v : goal.returns-then-v
unfolding temp_recorded
returns-then-v c = simp (le-leb _ _ c.if-v.true)

pub returns : goal.returns
returns c =
    temp_made _ _ _ _ _ c.if-v.false
    c.put_rows.ensures c.give_uses.ensures

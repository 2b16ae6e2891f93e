-- `clause_records::add_perm`: each way of the code is a case of the definition. Assumes nothing.
use borrow.Author.Tests.{le-leb, lt-leb}
use Rattle.clause_records.specs.ClauseRecords.{perm_recorded}
use Rattle.clause_records.proofs.add_perm.Goals as goal

pub returns-then-v : goal.returns-then-v
unfolding perm_recorded
returns-then-v c = simp (le-leb _ _ c.if-v.true)

pub returns : goal.returns
unfolding perm_recorded
returns c = simp (lt-leb _ _ c.if-v.false, c.put_rows.ensures)

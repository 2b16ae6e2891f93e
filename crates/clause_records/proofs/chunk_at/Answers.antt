-- `clause_records::chunk_at`: each way of the code is a case of the definition. Assumes nothing.
use borrow.Author.Tests.{le-leb, lt-leb}
use Rattle.clause_records.specs.ClauseRecords.{chunk_at}
use Rattle.clause_records.proofs.chunk_at.Goals as goal

pub returns-then-counters-v : goal.returns-then-counters-v
unfolding chunk_at
returns-then-counters-v c = simp (le-leb _ _ c.if-counters-v.true)

pub returns-in-Temp : goal.returns-in-Temp
unfolding chunk_at
returns-in-Temp c = simp (lt-leb _ _ c.if-counters-v.false, ← c.load-variable.ensures, c.in-Temp.is, c.chunk_num.ensures)

pub returns-in-Perm : goal.returns-in-Perm
unfolding chunk_at
returns-in-Perm c = simp (lt-leb _ _ c.if-counters-v.false, ← c.load-variable.ensures, c.in-Perm.is)

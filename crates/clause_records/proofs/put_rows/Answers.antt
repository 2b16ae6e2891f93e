-- `clause_records::put_rows`: the code is the definition. Assumes nothing.
use Rattle.clause_records.specs.ClauseRecords.{rows_put}
use Rattle.clause_records.proofs.put_rows.Goals as goal

pub returns : goal.returns
unfolding rows_put
returns c =
    simp (c.empty-nothing.ensures, c.store.ensures, c.store-2.ensures, c.store-3.ensures)

-- `clause_records::chunks_of`: the chunks of the variables passed are there. Assumes nothing.
use Rattle.std.proofs.Common.{arith}
use Rattle.std.specs.Prelude.{None}
use Rattle.sizes.specs.Sizes.{variables}
use Rattle.restricting_sets.specs.RowsLaws.{rows_made}
use Rattle.clause_records.specs.ClauseRecords.{chunk_at, chunks_of}
use Rattle.clause_records.proofs.chunks_of.Goals as goal

pub returns : goal.returns
unfolding chunks_of
returns c =
    let l = c.loop-v in
    rows_made (chunk_at _ _) l.chunk-items variables None l.invariant.0 (λ v h. l.invariant.1 v (omega arith))

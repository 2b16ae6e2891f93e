-- `clause_records::chunks_of`: the chunks of the variables passed are there. Assumes nothing.
use Rattle.std.proofs.Common.{◌≡◌, ℕ, ◌<◌, length, get_or}
use Rattle.std.specs.Prelude.{None}
use Rattle.sizes.specs.Sizes.{variables}
use Rattle.clause_records.specs.ClauseRecords.{chunk_at}
use Rattle.clause_records.proofs.chunks_of.Given as goal

abbrev pub invariant-loop-v : goal.invariant-loop-v
invariant-loop-v l =
    (length l.chunk-items ≡ variables) × ((k : ℕ) → k < l.v → get_or l.chunk-items k None ≡ chunk_at l.counters l.records k)

-- `clause_records::populate`: the sets are populated from the chunks of the records. Assumes nothing.
use Rattle.clause_records.specs.ClauseRecordsLaws.{sets-populated}
use Rattle.clause_records.proofs.populate.Goals as goal

pub returns : goal.returns
returns c = sets-populated _ _ c.chunks_of-chunks.ensures c.populate_restricting_sets.ensures

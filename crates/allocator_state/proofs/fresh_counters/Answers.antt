-- `allocator_state::fresh_counters`: the code is the definition. Assumes nothing.
use Rattle.allocator_state.proofs.fresh_counters.Goals as goal

pub returns : goal.returns
returns c = simp c.empty.ensures

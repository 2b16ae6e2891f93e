-- `debray_allocator::fresh`: the code is the definition. Assumes nothing.
use Rattle.debray_allocator.proofs.fresh.Goals as goal

pub returns : goal.returns
returns c = simp c.fresh_counters.ensures

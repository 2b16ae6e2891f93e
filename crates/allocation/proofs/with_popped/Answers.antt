-- `allocation::with_popped`: the code is the definition. Assumes nothing.
use Rattle.allocation.proofs.with_popped.Goals as goal

pub returns : goal.returns
returns c = simp c.insert.ensures

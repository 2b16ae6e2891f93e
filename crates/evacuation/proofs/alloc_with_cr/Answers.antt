-- `evacuation::alloc_with_cr`: the code is the definition. Assumes nothing.
use Rattle.evacuation.proofs.alloc_with_cr.Goals as goal

pub returns : goal.returns
returns c = simp (← c.uses_of-use_set.ensures, ← c.load.ensures, c.choose.ensures)

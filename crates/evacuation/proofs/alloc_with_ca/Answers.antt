-- `evacuation::alloc_with_ca`: the code is the definition. Assumes nothing.
use Rattle.evacuation.proofs.alloc_with_ca.Goals as goal

pub returns : goal.returns
returns c = simp (← c.uses_of-use_set.ensures, ← c.load.ensures, ← c.load-2.ensures, ← c.union_with-avoided.ensures, c.choose.ensures)

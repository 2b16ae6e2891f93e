-- `mark_var::settle`: the code is the definition. Assumes nothing.
use Rattle.mark_var.specs.MarkVar.{settled}
use Rattle.mark_var.proofs.settle.Goals as goal

pub returns : goal.returns
unfolding settled
returns c = simp (← c.chunk_num-chunk.ensures, ← c.number-number.ensures, ← c.load-variable.ensures, ← c.set_register.ensures, ← c.store.ensures, ← c.count_or_free-released.ensures, c.used_by.ensures)

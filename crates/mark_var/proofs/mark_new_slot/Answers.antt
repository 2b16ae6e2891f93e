-- `mark_var::mark_new_slot`: each way of the code is a case of the definition. Assumes nothing.
use Rattle.mark_var.specs.MarkVar.{new_slot_marked, new_slot_after}
use Rattle.mark_var.proofs.mark_new_slot.Goals as goal

pub returns-then-is_some : goal.returns-then-is_some
unfolding new_slot_marked new_slot_after
returns-then-is_some c = simp (← c.chunk_num-chunk.ensures, ← c.alloc_perm_var-placed.ensures, ← c.is_some.ensures, c.if-is_some.true)

pub returns : goal.returns
unfolding new_slot_marked new_slot_after
returns c = simp (← c.chunk_num-chunk.ensures, ← c.alloc_perm_var-placed.ensures, ← c.is_some.ensures, c.if-is_some.false, c.mark_at.ensures)

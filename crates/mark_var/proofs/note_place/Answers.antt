-- `mark_var::note_place`: each way of the code is a case of the definition. Assumes nothing.
use Rattle.mark_var.specs.MarkVar.{noted_slot}
use Rattle.mark_var.proofs.note_place.Goals as goal

pub returns-then-is_new : goal.returns-then-is_new
unfolding noted_slot
returns-then-is_new c = simp (c.in-Perm.is, c.if-is_new.true, c.record_occurrence.ensures.value, c.record_occurrence.ensures.rows_after, c.record_occurrence.ensures.branch_sets_after)

pub returns-in-Temp : goal.returns-in-Temp
unfolding noted_slot
returns-in-Temp c = simp (c.in-Temp.is, c.insert.ensures)

pub returns-else-is_new : goal.returns-else-is_new
unfolding noted_slot
returns-else-is_new c = simp (c.in-Perm.is, c.if-is_new.false)

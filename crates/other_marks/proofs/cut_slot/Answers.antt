-- `other_marks::cut_slot`: each way of the code is a case of the definition. Assumes nothing.
use Rattle.other_marks.specs.OtherMarks.{slot_cut, slot_cut_by}
use Rattle.other_marks.proofs.cut_slot.Goals as goal

pub returns-then-is_some : goal.returns-then-is_some
unfolding slot_cut slot_cut_by
returns-then-is_some c = simp (← c.alloc_perm_var-placed.ensures, ← c.is_some.ensures, c.if-is_some.true, c.refused.ensures)

pub returns : goal.returns
unfolding slot_cut slot_cut_by
returns c = simp (← c.alloc_perm_var-placed.ensures, ← c.is_some.ensures, c.if-is_some.false, c.quiet.ensures)

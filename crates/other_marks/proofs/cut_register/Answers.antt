-- `other_marks::cut_register`: each way of the code is a case of the definition. Assumes nothing.
use Rattle.other_marks.specs.OtherMarks.{register_cut}
use Rattle.other_marks.proofs.cut_register.Goals as goal

pub returns-in-None : goal.returns-in-None
unfolding register_cut
returns-in-None c = simp (← c.alloc_reg_to_non_var-given.ensures, c.in-None.is, c.refused.ensures)

pub returns-in-Some : goal.returns-in-Some
unfolding register_cut
returns-in-Some c = simp (← c.alloc_reg_to_non_var-given.ensures, c.in-Some.is, ← c.allocated.ensures, ← c.store.ensures, c.quiet.ensures)

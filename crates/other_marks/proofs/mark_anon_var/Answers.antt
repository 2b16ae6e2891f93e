-- `other_marks::mark_anon_var`: each way of the code is a case of the definition. Assumes nothing.
use Rattle.other_marks.specs.OtherMarks.{anon_marked}
use Rattle.other_marks.proofs.mark_anon_var.Goals as goal

pub returns-in-None : goal.returns-in-None
unfolding anon_marked
returns-in-None c = simp (← c.alloc_reg_to_non_var-given.ensures, c.in-None.is, c.refused.ensures)

pub returns-in-Some : goal.returns-in-Some
unfolding anon_marked
returns-in-Some c = simp (← c.alloc_reg_to_non_var-given.ensures, c.in-Some.is, c.put_anon.ensures)

-- `other_marks::mark_cut_var`: each way of the code is a case of the definition. Assumes nothing.
use borrow.Author.Tests.{eq-eqb, ne_eqb}
use Rattle.other_marks.specs.OtherMarks.{cut_marked, cut_as}
use Rattle.other_marks.proofs.mark_cut_var.Goals as goal

pub returns-then-slot-eq0 : goal.returns-then-slot-eq0
unfolding cut_marked cut_as
returns-then-slot-eq0 c = simp (← c.load-found.ensures, c.in-Perm.is, eq-eqb _ _ c.if-slot-eq0.true, c.cut_slot.ensures)

pub returns-then-temp_reg-eq0 : goal.returns-then-temp_reg-eq0
unfolding cut_marked cut_as
returns-then-temp_reg-eq0 c = simp (← c.load-found.ensures, c.in-Temp.is, eq-eqb _ _ c.if-temp_reg-eq0.true, c.cut_register.ensures)

pub returns-else-slot-eq0 : goal.returns-else-slot-eq0
unfolding cut_marked cut_as
returns-else-slot-eq0 c = simp (← c.load-found.ensures, c.in-Perm.is, ne_eqb _ _ c.if-slot-eq0.false, c.quiet.ensures)

pub returns-else-temp_reg-eq0 : goal.returns-else-temp_reg-eq0
unfolding cut_marked cut_as
returns-else-temp_reg-eq0 c = simp (← c.load-found.ensures, c.in-Temp.is, ne_eqb _ _ c.if-temp_reg-eq0.false, c.quiet-in-Temp.ensures)

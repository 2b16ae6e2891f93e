-- `mark_var::mark_var`: each way of the code is a case of the definition. Assumes nothing.
use borrow.Author.Tests.{eq-eqb, ne_eqb}
use Rattle.mark_var.specs.MarkVar.{var_marked, temporary_marked, permanent_marked}
use Rattle.mark_var.proofs.mark_var.Goals as goal

pub returns-then-temp_reg-eq0 : goal.returns-then-temp_reg-eq0
unfolding var_marked temporary_marked permanent_marked
returns-then-temp_reg-eq0 c = simp (← c.load-variable.ensures, c.in-Temp.is, eq-eqb _ _ c.if-temp_reg-eq0.true, c.mark_new_temporary.ensures)

pub returns-then-slot-eq0 : goal.returns-then-slot-eq0
unfolding var_marked temporary_marked permanent_marked
returns-then-slot-eq0 c = simp (← c.load-variable.ensures, c.in-Perm.is, eq-eqb _ _ c.if-slot-eq0.true, c.mark_new_slot.ensures)

pub returns-else-temp_reg-eq0 : goal.returns-else-temp_reg-eq0
unfolding var_marked temporary_marked permanent_marked
returns-else-temp_reg-eq0 c = simp (← c.load-variable.ensures, c.in-Temp.is, ne_eqb _ _ c.if-temp_reg-eq0.false, c.mark_at.ensures)

pub returns-else-slot-eq0 : goal.returns-else-slot-eq0
unfolding var_marked temporary_marked permanent_marked
returns-else-slot-eq0 c = simp (← c.load-variable.ensures, c.in-Perm.is, ne_eqb _ _ c.if-slot-eq0.false, c.mark_slot.ensures)

-- `mark_var::mark_slot`: each way of the code is a case of the definition. Assumes nothing.
use Rattle.mark_var.proofs.mark_slot.Goals as goal

pub returns-in-Pending : goal.returns-in-Pending
returns-in-Pending c = simp (c.in-Pending.is, ← c.give_slot.ensures, c.mark_at.ensures)

pub returns-in-Done : goal.returns-in-Done
returns-in-Done c = simp (c.in-Done.is, c.mark_at-in-Done.ensures)

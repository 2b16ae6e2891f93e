-- `allocation::alloc_reg_to_non_var`: each way of the code is a case of the definition. Assumes nothing.
use Rattle.allocation.specs.Allocation.{non_var}
use Rattle.allocation.proofs.alloc_reg_to_non_var.Goals as goal

pub returns-in-Some : goal.returns-in-Some
unfolding non_var
returns-in-Some c = simp (← c.pop_freed-popped.ensures, c.in-Some.is, c.with_popped.ensures)

pub returns-in-Some-least_outside : goal.returns-in-Some-least_outside
unfolding non_var
returns-in-Some-least_outside c = simp (← c.pop_freed-popped.ensures, c.in_default.is, ← c.least_outside.ensures, c.in-Some-least_outside.is, c.with_searched.ensures)

pub returns-in-None : goal.returns-in-None
unfolding non_var
returns-in-None c = simp (← c.pop_freed-popped.ensures, c.in_default.is, ← c.least_outside.ensures, c.in-None.is)

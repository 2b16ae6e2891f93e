-- `reserved_var::put_argument`: each way of the code is a case of the definition. Assumes nothing.
use Rattle.reserved_var.specs.ReservedVar.{argument_made}
use Rattle.reserved_var.proofs.put_argument.Goals as goal

pub returns-then-in_place : goal.returns-then-in_place
unfolding argument_made
returns-then-in_place c = simp (← c.load-variable.ensures, ← c.in_place.ensures, c.if-in_place.true, c.going.ensures)

pub returns-then-is_new : goal.returns-then-is_new
unfolding argument_made
returns-then-is_new c = simp (← c.load-variable.ensures, ← c.in_place.ensures, c.if-in_place.false, c.if-is_new.true, ← c.mark_safe_var-refusal.ensures, ← c.argument_to_variable.ensures, c.instructed.ensures)

pub returns : goal.returns
unfolding argument_made
returns c = simp (← c.load-variable.ensures, ← c.in_place.ensures, c.if-in_place.false, c.if-is_new.false, ← c.argument_to_value-valued.ensures, c.keep_value.ensures)

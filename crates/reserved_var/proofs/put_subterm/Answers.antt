-- `reserved_var::put_subterm`: each way of the code is a case of the definition. Assumes nothing.
use Rattle.reserved_var.specs.ReservedVar.{subterm_made}
use Rattle.reserved_var.proofs.put_subterm.Goals as goal

pub returns-then-is_met : goal.returns-then-is_met
unfolding subterm_made
returns-then-is_met c = simp (← c.is_met.ensures, c.if-is_met.true, ← c.load-variable.ensures, ← c.subterm_to_value-valued.ensures, c.keep_value.ensures)

pub returns : goal.returns
unfolding subterm_made
returns c = simp (← c.is_met.ensures, c.if-is_met.false, ← c.mark_safe_var-refusal.ensures, ← c.subterm_to_variable.ensures, c.instructed.ensures)

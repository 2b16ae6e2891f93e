-- `reserved_var::instructed`: each way of the code is a case of the definition. Assumes nothing.
use Rattle.reserved_var.specs.ReservedVar.{instructed_after}
use Rattle.reserved_var.proofs.instructed.Goals as goal

pub returns-then-is_some : goal.returns-then-is_some
unfolding instructed_after
returns-then-is_some c = simp (← c.is_some.ensures, c.if-is_some.true)

pub returns : goal.returns
unfolding instructed_after
returns c = simp (← c.is_some.ensures, c.if-is_some.false, ← c.push_back.ensures, c.going.ensures)

-- `reserved_var::advanced`: each way of the code is a case of the definition. Assumes nothing.
use Rattle.reserved_var.specs.ReservedVar.{advanced_by}
use Rattle.reserved_var.proofs.advanced.Goals as goal

pub returns-then-is_some : goal.returns-then-is_some
unfolding advanced_by
returns-then-is_some c = simp (← c.is_some.ensures, c.if-is_some.true)

pub returns : goal.returns
unfolding advanced_by
returns c = simp (← c.is_some.ensures, c.if-is_some.false, ← c.counter_after.ensures, c.going.ensures)

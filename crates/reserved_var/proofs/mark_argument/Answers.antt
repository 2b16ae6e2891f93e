-- `reserved_var::mark_argument`: each way of the code is a case of the definition. Assumes nothing.
use Rattle.reserved_var.specs.ReservedVar.{argument_marked, marked_after}
use Rattle.reserved_var.proofs.mark_argument.Goals as goal

pub returns-then-is_some : goal.returns-then-is_some
unfolding argument_marked marked_after
returns-then-is_some c = simp (← c.chunk_num.ensures, ← c.empty_argument-emptied.ensures, ← c.is_some.ensures, c.if-is_some.true)

pub returns : goal.returns
unfolding argument_marked marked_after
returns c = simp (← c.chunk_num.ensures, ← c.empty_argument-emptied.ensures, ← c.is_some.ensures, c.if-is_some.false, ← c.put_argument-made.ensures, ← c.advanced.ensures)

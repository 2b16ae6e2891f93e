-- `freeing::count_or_free`: each way of the code is a case of the definition. Assumes nothing.
use borrow.Author.Tests.{le-ltb, lt-ltb}
use Rattle.freeing.specs.Freeing.{counted_or_freed}
use Rattle.freeing.proofs.count_or_free.Goals as goal

pub returns-then-variable : goal.returns-then-variable
unfolding counted_or_freed
returns-then-variable c = simp (← c.load-variable.ensures, lt-ltb _ _ c.if-variable.true, c.store.ensures)

pub returns : goal.returns
unfolding counted_or_freed
returns c = simp (← c.load-variable.ensures, le-ltb _ _ c.if-variable.false, c.free_var.ensures)

-- `resets::add_reg_to_free_list`: each way of the code is a case of the definition. Assumes nothing.
use borrow.Author.Tests.{le-leb, lt-leb}
use Rattle.resets.specs.Resets.{register_freed}
use Rattle.resets.proofs.add_reg_to_free_list.Goals as goal

pub returns-then-count : goal.returns-then-count
unfolding register_freed
returns-then-count c = simp (le-leb _ _ c.if-count.true)

pub returns : goal.returns
unfolding register_freed
returns c = simp (lt-leb _ _ c.if-count.false, c.remove.ensures)

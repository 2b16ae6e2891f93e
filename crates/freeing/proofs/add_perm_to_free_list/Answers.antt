-- `freeing::add_perm_to_free_list`: each way of the code is a case of the definition. Assumes nothing.
use borrow.Author.Tests.{le-leb, lt-leb}
use Rattle.freeing.specs.Freeing.{pushed_free}
use Rattle.freeing.proofs.add_perm_to_free_list.Goals as goal

pub returns-then-count : goal.returns-then-count
unfolding pushed_free
returns-then-count c = simp (le-leb _ _ c.if-count.true)

pub returns : goal.returns
unfolding pushed_free
returns c = simp (lt-leb _ _ c.if-count.false, c.put_entry.ensures)

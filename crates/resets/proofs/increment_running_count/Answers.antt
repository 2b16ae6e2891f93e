-- `resets::increment_running_count`: each way of the code is a case of the definition. Assumes nothing.
use borrow.Author.Tests.{le-leb, lt-leb}
use Rattle.resets.specs.Resets.{running_incremented}
use Rattle.resets.proofs.increment_running_count.Goals as goal

pub returns-then-variable-ge-LAST_COUNT : goal.returns-then-variable-ge-LAST_COUNT
unfolding running_incremented
returns-then-variable-ge-LAST_COUNT c = simp (← c.load-variable.ensures, le-leb _ _ c.if-variable-ge-LAST_COUNT.true)

pub returns : goal.returns
unfolding running_incremented
returns c = simp (← c.load-variable.ensures, lt-leb _ _ c.if-variable-ge-LAST_COUNT.false, c.store.ensures)

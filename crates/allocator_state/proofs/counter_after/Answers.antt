-- `allocator_state::counter_after`: the test of the code is the test of the definition. Assumes nothing.
use borrow.Author.Tests.{le-leb, le-ltb, lt-ltb, lt-leb}
use Rattle.allocator_state.specs.State.{counter_after}
use Rattle.allocator_state.proofs.counter_after.Goals as goal

pub returns-then-n-lt-LAST_COUNTER : goal.returns-then-n-lt-LAST_COUNTER
unfolding counter_after
returns-then-n-lt-LAST_COUNTER c = simp (lt-ltb _ _ c.if-n-lt-LAST_COUNTER.true, lt-leb _ _ c.if-n-lt-LAST_COUNTER.true)

pub returns-else-n-lt-LAST_COUNTER : goal.returns-else-n-lt-LAST_COUNTER
unfolding counter_after
returns-else-n-lt-LAST_COUNTER c = simp (le-leb _ _ c.if-n-lt-LAST_COUNTER.false, le-ltb _ _ c.if-n-lt-LAST_COUNTER.false)

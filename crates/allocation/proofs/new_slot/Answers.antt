-- `allocation::new_slot`: each way of the code is a case of the definition. Assumes nothing.
use borrow.Author.Tests.{le-ltb, lt-ltb}
use Rattle.allocation.specs.Allocation.{new_slot}
use Rattle.allocation.proofs.new_slot.Goals as goal

pub returns-then-slot-gt-LAST_REGISTER : goal.returns-then-slot-gt-LAST_REGISTER
unfolding new_slot
returns-then-slot-gt-LAST_REGISTER c = simp (lt-ltb _ _ c.if-slot-gt-LAST_REGISTER.true)

pub returns : goal.returns
unfolding new_slot
returns c = simp (le-ltb _ _ c.if-slot-gt-LAST_REGISTER.false, ← c.give_slot.ensures, c.counter_after.ensures)

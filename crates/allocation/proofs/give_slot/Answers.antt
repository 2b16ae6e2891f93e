-- `allocation::give_slot`: the code is the definition. Assumes nothing.
use Rattle.allocation.specs.Allocation.{slot_given}
use Rattle.allocation.proofs.give_slot.Goals as goal

pub returns : goal.returns
unfolding slot_given
returns c = simp (← c.load-variable.ensures, ← c.allocated.ensures, c.store.ensures)

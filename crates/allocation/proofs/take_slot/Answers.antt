-- `allocation::take_slot`: the code is the definition. Assumes nothing.
use Rattle.allocation.specs.Allocation.{slot_taken}
use Rattle.allocation.proofs.take_slot.Goals as goal

pub returns : goal.returns
unfolding slot_taken
returns c = simp (← c.load-variable.ensures, ← c.set_register.ensures, c.store.ensures)

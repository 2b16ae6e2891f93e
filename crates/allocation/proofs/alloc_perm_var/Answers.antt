-- `allocation::alloc_perm_var`: each way of the code is a case of the definition. Assumes nothing.
use Rattle.allocation.specs.Allocation.{perm_placed, slot_found}
use Rattle.allocation.proofs.alloc_perm_var.Goals as goal

pub returns-in-Some : goal.returns-in-Some
unfolding perm_placed slot_found
returns-in-Some c = simp (← c.look-found.ensures, ← c.without_front-left.ensures, c.in-Some.is, ← c.take_slot.ensures, c.give_slot.ensures)

pub returns-in-None : goal.returns-in-None
unfolding perm_placed slot_found
returns-in-None c = simp (← c.look-found.ensures, ← c.without_front-left.ensures, c.in-None.is, c.new_slot.ensures)

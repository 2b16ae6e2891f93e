-- `perm_free_list::free_slot`: each kind of record is a case of the definition. Assumes nothing.
use Rattle.perm_free_list.specs.PermFreeList.{free_slot}
use Rattle.perm_free_list.proofs.free_slot.Goals as goal

pub returns-in-Temp : goal.returns-in-Temp
unfolding free_slot
returns-in-Temp c = simp (← c.load.ensures, c.in-Temp.is)

pub returns-in-Pending : goal.returns-in-Pending
unfolding free_slot
returns-in-Pending c = simp (← c.load.ensures, c.in-Perm.is, c.in-Pending.is) c.then_some.ensures

pub returns-in-Done : goal.returns-in-Done
unfolding free_slot
returns-in-Done c = simp (← c.load.ensures, c.in-Perm.is, c.in-Done.is)

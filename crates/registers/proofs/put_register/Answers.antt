-- `registers::put_register`: each kind of place has its letter. Assumes nothing.
use Rattle.registers.specs.Registers.{register_text}
use Rattle.registers.proofs.put_register.Goals as goal

pub returns-in-Temp : goal.returns-in-Temp
unfolding register_text
returns-in-Temp c = rw c.in-Temp.is c.put_lettered.ensures

pub returns-in-Perm : goal.returns-in-Perm
unfolding register_text
returns-in-Perm c = rw c.in-Perm.is c.put_lettered-in-Perm.ensures

-- `targets::unsafe_argument_to_value`: a fact has one instruction, a query one for each kind of place. Assumes nothing.
use Rattle.targets.proofs.unsafe_argument_to_value.Goals as goal

pub returns-in-Fact : goal.returns-in-Fact
returns-in-Fact c = rw c.in-Fact.is

pub returns-in-Perm : goal.returns-in-Perm
returns-in-Perm c = rw (c.in-Query.is, c.in-Perm.is)

pub returns-in-Temp : goal.returns-in-Temp
returns-in-Temp c = rw (c.in-Query.is, c.in-Temp.is)

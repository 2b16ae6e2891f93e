-- `targets::unsafe_subterm_to_value`: each target has its instruction. Assumes nothing.
use Rattle.targets.proofs.unsafe_subterm_to_value.Goals as goal

pub returns-in-Fact : goal.returns-in-Fact
returns-in-Fact c = rw c.in-Fact.is

pub returns-in-Query : goal.returns-in-Query
returns-in-Query c = rw c.in-Query.is

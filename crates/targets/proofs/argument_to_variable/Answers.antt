-- `targets::argument_to_variable`: each target has its instruction. Assumes nothing.
use Rattle.targets.proofs.argument_to_variable.Goals as goal

pub returns-in-Fact : goal.returns-in-Fact
returns-in-Fact c = rw c.in-Fact.is

pub returns-in-Query : goal.returns-in-Query
returns-in-Query c = rw c.in-Query.is

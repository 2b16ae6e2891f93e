-- `symbolic::Pairs::push`: the test of the code is the test of the definition. Assumes nothing.
use Rattle.std.proofs.Common.{arith}
use Rattle.symbolic.specs.TablesLaws.{pushed-fits, pushed_full}
use Rattle.symbolic.proofs.Pairs.push.Goals as goal

pub returns-then-self : goal.returns-then-self
returns-then-self c = pushed-fits _ _ _ _ (omega arith)

pub returns-else-self : goal.returns-else-self
returns-else-self c = pushed_full _ _ _ _ (omega arith)

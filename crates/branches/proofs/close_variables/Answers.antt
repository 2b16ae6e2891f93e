-- `branches::close_variables`: from entry i on the list makes of the records so far what the whole list makes.
-- Assumes nothing.
use mathlib.Core.Path.{refl}
use Rattle.branches.specs.ListLaws.{each_entry, each-end}
use Rattle.branches.proofs.close_variables.Goals as goal

pub loop-v-init : goal.loop-v-init
loop-v-init c = refl

pub loop-v-preserved : goal.loop-v-preserved
loop-v-preserved c = let l = c.loop-v in each_entry _ _ l.v-index l.invariant c.loop-v-test.true c.close_variable.ensures

pub returns : goal.returns
returns c = let l = c.loop-v in each-end _ _ l.v-index l.invariant c.loop-v-test.false

-- `classes::Labels::flatten`: the names passed have their labels for parents. Assumes nothing.
use Rattle.std.proofs.Common.{arith, add-one}
use Rattle.classes.specs.ParentsLaws.{passed_start, passed_next, passed_end}
use Rattle.classes.proofs.Labels.flatten.Goals as goal

pub loop-x-init : goal.loop-x-init
loop-x-init c = passed_start _ c.self.invariant

pub loop-x-preserved : goal.loop-x-preserved
loop-x-preserved c = (let l = c.loop-x in rw (add-one l.x) (passed_next _ _ l.x l.invariant c.loop-x-test.true))

pub returns : goal.returns
returns c = (let l = c.loop-x in rw c.self.view_is at (passed_end _ _ l.x l.invariant (omega arith)))

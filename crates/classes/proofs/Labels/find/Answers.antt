-- `classes::Labels::find`: the name reached has the label of `x`, and no label changed. The measure is that name, since the walk
-- falls. Assumes nothing.
use Rattle.std.proofs.Common.{arith}
use Rattle.classes.specs.ParentsLaws.{walked_start, walked-below, walked_next, walked_end}
use Rattle.classes.proofs.Labels.find.Goals as goal

pub loop-parent-init : goal.loop-parent-init
loop-parent-init c = walked_start _ _ c.requires c.self.invariant

pub loop-parent-smaller : goal.loop-parent-smaller
loop-parent-smaller c = omega (arith, walked-below _ _ _ _ _ c.loop-parent.invariant)

pub loop-parent-preserved : goal.loop-parent-preserved
loop-parent-preserved c = walked_next _ _ _ _ _ c.loop-parent.invariant c.loop-parent-test.true

pub returns : goal.returns
returns c = rw c.self.view_is at (walked_end _ _ _ _ _ c.loop-parent.invariant c.loop-parent-test.false)

-- `classes::Labels::fill`: the names passed have themselves for a parent. Assumes nothing.
use Rattle.std.proofs.Common.{arith}
use Rattle.classes.specs.ParentsLaws.{own-end}
use Rattle.classes.proofs.Labels.fill.Goals as goal

pub returns : goal.returns
returns c = (let l = c.loop-name in own-end l.parent-items l.name l.invariant.0 (omega arith) l.invariant.1)

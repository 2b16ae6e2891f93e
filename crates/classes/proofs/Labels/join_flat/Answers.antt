-- `classes::Labels::join_flat`: the pairs that are left lead from the labels now to the labels after all. The measure is what is
-- left of the pairs. Assumes nothing.
use Rattle.std.proofs.Common.{arith}
use Rattle.classes.specs.ClassesLaws.{pairs_next, pairs_end}
use Rattle.classes.specs.ParentsLaws.{toward_start, toward_next, toward_end}
use Rattle.classes.proofs.Labels.join_flat.Goals as goal

pub loop-i-init : goal.loop-i-init
loop-i-init c = (omega arith, rw c.self.view_is at c.self.invariant, λ labels rooted. toward_start labels _ _ rooted)

pub loop-i-preserved : goal.loop-i-preserved
loop-i-preserved c =
    let a = c.args in
    let l = c.loop-i in
    let more = c.loop-i-test.true in (
      omega arith,
      c.join.ensures.falling,
      λ labels rooted. toward_next _ _ _ _ l.self _ (rw (pairs_next a.pairs.now l.i more) at (l.invariant.2 labels rooted)) c.join.ensures,
    )

pub returns : goal.returns
returns c =
    let a = c.args in
    let l = c.loop-i in
    record {
      falling = l.invariant.1;
      rooted = λ labels rooted. toward_end _ _ (rw (pairs_end a.pairs.now l.i c.loop-i-test.false) at (l.invariant.2 labels rooted));
    }

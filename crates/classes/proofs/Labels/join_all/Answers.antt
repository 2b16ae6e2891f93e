-- `classes::Labels::join_all`: the pairs that are left lead from the labels now to the labels after all. Assumes nothing.
use Rattle.std.proofs.Common.{arith, add-one, drop-cons, drop_of_length-le}
use Rattle.classes.specs.ParentsLaws.{toward_start, toward_next, toward_end}
use Rattle.classes.proofs.Labels.join_all.Goals as goal

pub loop-x-init : goal.loop-x-init
loop-x-init c = (rw c.self.view_is at c.self.invariant, λ labels rooted. toward_start labels _ _ rooted)

pub loop-x-preserved : goal.loop-x-preserved
loop-x-preserved c =
    let pairs = c.args.pairs.now in
    let l = c.loop-x in (
      c.join.ensures.falling,
      λ labels rooted. rw add-one (toward_next _ _ _ _ l.self _ (rw (drop-cons pairs l.x-index (0, 0) c.loop-x-test.true) at (l.invariant.1 labels rooted)) c.join.ensures),
    )

pub returns : goal.returns
returns c =
    let pairs = c.args.pairs.now in
    let l = c.loop-x in
    record {
      falling = l.invariant.0;
      rooted = λ labels rooted. toward_end _ _ (rw (drop_of_length-le pairs {i = l.x-index} (omega arith)) at (l.invariant.1 labels rooted));
    }

-- `bit_set::below`: one less than the power has the digits below it. Assumes nothing.
use lib.Pow.{pow_pos}
use Rattle.bit_set.specs.SearchLaws.{ones_below, every_member_below}
use Rattle.bit_set.proofs.below.Goals as goal

pub overflow_sub-result : goal.overflow_sub-result
overflow_sub-result c = rw c.single.ensures (pow_pos c.args.n)

pub returns-then-n-le-LAST_MEMBER : goal.returns-then-n-le-LAST_MEMBER
returns-then-n-le-LAST_MEMBER c = rw c.single.ensures (ones_below _ c.if-n-le-LAST_MEMBER.true)

pub returns-else-n-le-LAST_MEMBER : goal.returns-else-n-le-LAST_MEMBER
returns-else-n-le-LAST_MEMBER c = rw c.empty.ensures (every_member_below _ c.if-n-le-LAST_MEMBER.false)

-- `bit_set::insert`: each way of the code is that way of the definition. Assumes nothing.
use borrow.Author.Tests.{le-leb, lt-leb}
use Rattle.bit_set.specs.BitSet.{inserted}
use Rattle.bit_set.proofs.insert.Goals as goal

pub returns-then-n-le-LAST_MEMBER : goal.returns-then-n-le-LAST_MEMBER
unfolding inserted
returns-then-n-le-LAST_MEMBER c = simp (le-leb _ _ c.if-n-le-LAST_MEMBER.true, c.single.ensures)

pub returns-else-n-le-LAST_MEMBER : goal.returns-else-n-le-LAST_MEMBER
unfolding inserted
returns-else-n-le-LAST_MEMBER c = simp (lt-leb _ _ c.if-n-le-LAST_MEMBER.false)

-- `other_marks::instructed_at`: each way of the code is a case of the definition. Assumes nothing.
use Rattle.other_marks.specs.OtherMarks.{instructed_at}
use Rattle.other_marks.proofs.instructed_at.Goals as goal

pub returns-then-is_some : goal.returns-then-is_some
unfolding instructed_at
returns-then-is_some c = simp (← c.is_some.ensures, c.if-is_some.true)

pub returns : goal.returns
unfolding instructed_at
returns c = simp (← c.is_some.ensures, c.if-is_some.false, ← c.push_back.ensures, c.going.ensures)

-- `other_marks::marked_at`: each way of the code is a case of the definition. Assumes nothing.
use Rattle.other_marks.specs.OtherMarks.{marked_at}
use Rattle.other_marks.proofs.marked_at.Goals as goal

pub returns-then-is_some : goal.returns-then-is_some
unfolding marked_at
returns-then-is_some c = simp (← c.is_some.ensures, c.if-is_some.true)

pub returns : goal.returns
unfolding marked_at
returns c = simp (← c.is_some.ensures, c.if-is_some.false)

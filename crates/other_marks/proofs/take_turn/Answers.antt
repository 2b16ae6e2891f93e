-- `other_marks::take_turn`: each way of the code is a case of the definition. Assumes nothing.
use Rattle.other_marks.specs.OtherMarks.{turn_taken}
use Rattle.reserved_var.specs.ReservedVar.{advanced_by}
use Rattle.other_marks.proofs.take_turn.Goals as goal

pub returns-then-is_some : goal.returns-then-is_some
unfolding turn_taken advanced_by
returns-then-is_some c = simp (← c.empty_in_last_goal-emptied.ensures, ← c.is_some.ensures, c.if-is_some.true)

pub returns : goal.returns
unfolding turn_taken advanced_by
returns c = simp (← c.empty_in_last_goal-emptied.ensures, ← c.is_some.ensures, c.if-is_some.false, ← c.counter_after.ensures, c.going.ensures)

-- `other_marks::put_anon`: each way of the code is a case of the definition. Assumes nothing.
use Rattle.other_marks.specs.OtherMarks.{anon_placed}
use Rattle.other_marks.proofs.put_anon.Goals as goal

pub returns-then-is_argument : goal.returns-then-is_argument
unfolding anon_placed
returns-then-is_argument c = simp (← c.is_argument.ensures, c.if-is_argument.true, c.put_anon_argument.ensures)

pub returns : goal.returns
unfolding anon_placed
returns c = simp (← c.is_argument.ensures, c.if-is_argument.false, ← c.subterm_to_variable-instruction.ensures, ← c.going.ensures, c.instructed_at.ensures)

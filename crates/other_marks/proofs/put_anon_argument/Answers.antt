-- `other_marks::put_anon_argument`: the code is the definition. Assumes nothing.
use Rattle.other_marks.specs.OtherMarks.{anon_argument}
use Rattle.other_marks.proofs.put_anon_argument.Goals as goal

pub returns : goal.returns
unfolding anon_argument
returns c = simp (← c.take_turn-turn.ensures, ← c.argument_to_variable.ensures, c.instructed_at.ensures)

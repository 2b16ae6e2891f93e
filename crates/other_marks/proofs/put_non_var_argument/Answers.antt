-- `other_marks::put_non_var_argument`: the code is the definition. Assumes nothing.
use Rattle.other_marks.specs.OtherMarks.{non_var_argument}
use Rattle.other_marks.proofs.put_non_var_argument.Goals as goal

pub returns : goal.returns
unfolding non_var_argument
returns c = simp (← c.take_turn-turn.ensures, c.marked_at.ensures)

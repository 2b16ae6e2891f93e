-- `record_marks::argument_safe`: the test of the code is the test of the definition. Assumes nothing.
use borrow.Author.Tests.{eq-eqb, ne_eqb}
use Rattle.record_marks.specs.RecordMarks.{argument_safe}
use Rattle.record_marks.proofs.argument_safe.Goals as goal

pub returns-then-in_tail_position-eq0 : goal.returns-then-in_tail_position-eq0
unfolding argument_safe
returns-then-in_tail_position-eq0 c = simp (eq-eqb _ _ c.if-in_tail_position-eq0.true)

pub returns : goal.returns
unfolding argument_safe
returns c = simp (ne_eqb _ _ c.if-in_tail_position-eq0.false, c.safety_unneeded_in_branch.ensures)

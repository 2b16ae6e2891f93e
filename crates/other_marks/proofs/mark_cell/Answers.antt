-- `other_marks::mark_cell`: each way of the code is a case of the definition. Assumes nothing.
use borrow.Author.Tests.{eq-eqb, ne_eqb}
use Rattle.other_marks.specs.OtherMarks.{cell_marked}
use Rattle.other_marks.proofs.mark_cell.Goals as goal

pub returns-then-cell-eq0 : goal.returns-then-cell-eq0
unfolding cell_marked
returns-then-cell-eq0 c = simp (eq-eqb _ _ c.if-cell-eq0.true, c.mark_term.ensures)

pub returns : goal.returns
unfolding cell_marked
returns c = simp (ne_eqb _ _ c.if-cell-eq0.false, ← c.insert.ensures, c.quiet.ensures)

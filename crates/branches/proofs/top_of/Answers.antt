-- `branches::top_of`: the test of the code is the test of the definition. Assumes nothing.
use borrow.Author.Tests.{eq-eqb, ne_eqb}
use Rattle.branches.specs.Branches.{top_of}
use Rattle.branches.proofs.top_of.Goals as goal

pub returns-then-open_branches-eq0 : goal.returns-then-open_branches-eq0
unfolding top_of
returns-then-open_branches-eq0 c = simp (eq-eqb _ _ c.if-open_branches-eq0.true, c.opened.ensures)

pub returns : goal.returns
unfolding top_of
returns c = simp (ne_eqb _ _ c.if-open_branches-eq0.false, c.load.ensures)

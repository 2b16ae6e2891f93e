-- `branches::nowhere_recorded`: the tests of the code are those of the definition. Assumes nothing.
use borrow.Author.Tests.{eq-eqb, ne_eqb}
use Rattle.branches.specs.Branches.{nowhere_recorded}
use Rattle.branches.proofs.nowhere_recorded.Goals as goal

pub returns-then-left-eq0 : goal.returns-then-left-eq0
unfolding nowhere_recorded
returns-then-left-eq0 c = simp (eq-eqb _ _ c.if-left-eq0.true)

pub returns-then-variables-eq0 : goal.returns-then-variables-eq0
unfolding nowhere_recorded
returns-then-variables-eq0 c = simp (ne_eqb _ _ c.if-left-eq0.false, eq-eqb _ _ c.if-variables-eq0.true)

pub returns : goal.returns
unfolding nowhere_recorded
returns c = simp (ne_eqb _ _ c.if-left-eq0.false, ne_eqb _ _ c.if-variables-eq0.false, c.top_of-top.ensures)

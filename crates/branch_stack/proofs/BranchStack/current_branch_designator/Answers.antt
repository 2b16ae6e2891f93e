-- `branch_stack::BranchStack::current_branch_designator`: the test of the code is the test of the definition. Assumes nothing.
use borrow.Author.Tests.{eq-eqb, ne_eqb}
use Rattle.branch_stack.specs.BranchStack.{current_branch}
use Rattle.branch_stack.proofs.BranchStack.current_branch_designator.Goals as goal

pub returns-then-open_branches-eq0 : goal.returns-then-open_branches-eq0
unfolding current_branch
returns-then-open_branches-eq0 c = simp (eq-eqb _ _ c.if-open_branches-eq0.true)

pub returns : goal.returns
unfolding current_branch
returns c = simp (ne_eqb _ _ c.if-open_branches-eq0.false, c.branch_at.ensures)

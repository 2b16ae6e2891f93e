-- `branches::pend_member`: the test of the code is the test of the definition. Assumes nothing.
use Rattle.branches.specs.Branches.{pended_if_member}
use Rattle.branches.proofs.pend_member.Goals as goal

pub returns-then-contains : goal.returns-then-contains
unfolding pended_if_member
returns-then-contains c = simp (← c.contains.ensures, c.if-contains.true, c.pend_variable.ensures)

pub returns-else-contains : goal.returns-else-contains
unfolding pended_if_member
returns-else-contains c = simp (← c.contains.ensures, c.if-contains.false)

-- `branches::insert_if`: the test of the code is the test of the definition. Assumes nothing.
use Rattle.branches.specs.Branches.{inserted_if}
use Rattle.branches.proofs.insert_if.Goals as goal

pub returns-then-wanted : goal.returns-then-wanted
unfolding inserted_if
returns-then-wanted c = simp (c.if-wanted.true, c.insert.ensures)

pub returns : goal.returns
unfolding inserted_if
returns c = simp c.if-wanted.false

-- `branches::add_branch_stack`: the test of the code is the test of the definitions. Assumes nothing.
use mathlib.Core.Path.{refl}
use borrow.Author.Tests.{le-leb, lt-leb}
use Rattle.branches.specs.Branches.{opening, rows_opened, sets_opened}
use Rattle.branches.proofs.add_branch_stack.Goals as goal

pub returns-then-open_branches : goal.returns-then-open_branches
unfolding opening rows_opened sets_opened
returns-then-open_branches c = simp (le-leb _ _ c.if-open_branches.true) (record { value = refl; rows_after = refl; sets_after = refl })

pub returns : goal.returns
unfolding opening rows_opened sets_opened
returns c =
    simp (lt-leb _ _ c.if-open_branches.false, c.store.ensures.rows_after, c.store.ensures.sets_after, c.opened.ensures)
    (record { value = refl; rows_after = refl; sets_after = refl })

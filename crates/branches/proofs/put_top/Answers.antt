-- `branches::put_top`: the test of the code is the test of the definitions. Assumes nothing.
use mathlib.Core.Path.{refl}
use borrow.Author.Tests.{eq-eqb, ne_eqb}
use Rattle.branches.specs.Branches.{rows_top, sets_top}
use Rattle.branches.proofs.put_top.Goals as goal

pub returns-then-open_branches-eq0 : goal.returns-then-open_branches-eq0
unfolding rows_top sets_top
returns-then-open_branches-eq0 c = simp (eq-eqb _ _ c.if-open_branches-eq0.true) (record { rows_after = refl; sets_after = refl })

pub returns : goal.returns
unfolding rows_top sets_top
returns c = simp (ne_eqb _ _ c.if-open_branches-eq0.false, c.store.ensures.rows_after, c.store.ensures.sets_after) (record { rows_after = refl; sets_after = refl })

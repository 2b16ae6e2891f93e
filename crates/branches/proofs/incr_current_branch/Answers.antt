-- `branches::incr_current_branch`: the tests of the code are those of the definitions. Assumes nothing.
use mathlib.Core.Path.{refl}
use borrow.Author.Tests.{eq-eqb, ne_eqb, le-leb, lt-leb}
use Rattle.branches.specs.Branches.{advanced, rows_advanced, sets_advanced}
use Rattle.branches.proofs.incr_current_branch.Goals as goal

pub returns-then-open_branches-eq0 : goal.returns-then-open_branches-eq0
unfolding advanced rows_advanced sets_advanced
returns-then-open_branches-eq0 c = simp (eq-eqb _ _ c.if-open_branches-eq0.true) (record { value = refl; rows_after = refl; sets_after = refl })

pub returns-then-top-ge-LAST_COUNT : goal.returns-then-top-ge-LAST_COUNT
unfolding advanced rows_advanced sets_advanced
returns-then-top-ge-LAST_COUNT c =
    simp (ne_eqb _ _ c.if-open_branches-eq0.false, ← c.top_of-top.ensures, le-leb _ _ c.if-top-ge-LAST_COUNT.true)
    (record { value = refl; rows_after = refl; sets_after = refl })

pub returns : goal.returns
unfolding advanced rows_advanced sets_advanced
returns c =
    let top = c.top_of-top.ensures in
    let within = lt-leb _ _ c.if-top-ge-LAST_COUNT.false in
    simp (ne_eqb _ _ c.if-open_branches-eq0.false, ← top, within, c.put_top.ensures.rows_after, c.put_top.ensures.sets_after)
    (record { value = refl; rows_after = refl; sets_after = refl })

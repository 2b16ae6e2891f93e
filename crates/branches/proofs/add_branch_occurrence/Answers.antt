-- `branches::add_branch_occurrence`: the tests of the code are those of the definitions. Assumes nothing.
use mathlib.Core.Path.{refl}
use borrow.Author.Tests.{eq-eqb, ne_eqb, le-leb, lt-leb}
use Rattle.branches.specs.Branches.{recorded, rows_recorded, sets_recorded, rows_top, sets_top}
use Rattle.branches.proofs.add_branch_occurrence.Goals as goal

pub returns-then-open_branches-eq0 : goal.returns-then-open_branches-eq0
unfolding recorded rows_recorded sets_recorded rows_top sets_top
returns-then-open_branches-eq0 c = simp (eq-eqb _ _ c.if-open_branches-eq0.true) (record { value = refl; rows_after = refl; sets_after = refl })

pub returns-then-top : goal.returns-then-top
unfolding recorded rows_recorded sets_recorded
returns-then-top c =
    simp (ne_eqb _ _ c.if-open_branches-eq0.false, ← c.top_of-top.ensures, le-leb _ _ c.if-top.true)
    (record { value = refl; rows_after = refl; sets_after = refl })

pub returns : goal.returns
unfolding recorded rows_recorded sets_recorded
returns c =
    let top = c.top_of-top.ensures in
    let within = lt-leb _ _ c.if-top.false in
    simp (ne_eqb _ _ c.if-open_branches-eq0.false, ← top, within, c.put_top.ensures.rows_after, c.put_top.ensures.sets_after, c.insert.ensures)
    (record { value = refl; rows_after = refl; sets_after = refl })

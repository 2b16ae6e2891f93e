-- `branches::add_branch`: the tests of the code are those of the definitions. Assumes nothing.
use mathlib.Core.Path.{◌≡◌, refl, sym, ◌∙◌}
use borrow.Author.Tests.{eq-eqb, ne_eqb}
use Rattle.std.specs.Prelude.{Ok}
use Rattle.branches.specs.Branches.{taken, records_taken, rows_taken, sets_taken}
use Rattle.branches.specs.BranchesLaws.{records_taken_lem, rows_taken_lem, sets_taken_lem}
use Rattle.branches.proofs.add_branch.Goals as goal

pub returns-then-open_branches-eq0 : goal.returns-then-open_branches-eq0
unfolding taken records_taken rows_taken sets_taken
returns-then-open_branches-eq0 c = simp (eq-eqb _ _ c.if-open_branches-eq0.true) (record { value = refl; records_after = refl; rows_after = refl; sets_after = refl })

pub returns-then-holds_temporary : goal.returns-then-holds_temporary
unfolding taken records_taken rows_taken sets_taken
returns-then-holds_temporary c =
    let top = c.top_of-top.ensures in
    let held = c.holds_temporary.ensures in
    simp (ne_eqb _ _ c.if-open_branches-eq0.false, ← top, ← held, c.if-holds_temporary.true) (record { value = refl; records_after = refl; rows_after = refl; sets_after = refl })

pub returns : goal.returns
unfolding taken
returns c =
    let a = c.args in
    let top = c.top_of-top.ensures in
    let held = c.holds_temporary.ensures in
    let takes : taken a.records.now a.stack.now.rows a.stack.now.sets a.open_branches ≡ Ok tt =
    simp (ne_eqb _ _ c.if-open_branches-eq0.false, ← top, ← held, c.if-holds_temporary.false)
    in
    let safety = c.take_safety-taken.ensures in (record { value = sym takes; records_after = c.pend_members.ensures ∙ records_taken_lem _ _ _ _ _ _ takes top safety; rows_after = c.put_top.ensures.rows_after ∙ rows_taken_lem _ _ _ _ _ _ takes top safety; sets_after = c.put_top.ensures.sets_after ∙ sets_taken_lem _ _ _ _ _ _ takes top safety })

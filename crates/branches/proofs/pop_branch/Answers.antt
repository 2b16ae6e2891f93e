-- `branches::pop_branch`: the tests of the code are those of the definitions. Assumes nothing.
use Prim.Native.Nat.{◌-◌}
use mathlib.Core.Path.{◌≡◌, refl, sym, ◌∙◌}
use borrow.Author.Tests.{lt-ltb, le-ltb}
use Rattle.std.specs.Prelude.{Ok}
use Rattle.branches.specs.Branches.{popped, records_popped, rows_popped, sets_popped}
use Rattle.branches.specs.BranchesLaws.{records_popped_lem, rows_popped_lem, sets_popped_lem}
use Rattle.branches.proofs.pop_branch.Goals as goal

pub returns-then-open_branches-depth : goal.returns-then-open_branches-depth
unfolding popped records_popped rows_popped sets_popped
returns-then-open_branches-depth c = simp (lt-ltb _ _ c.if-open_branches-depth.true) (record { value = refl; records_after = refl; rows_after = refl; sets_after = refl })

pub returns-then-names_temporary : goal.returns-then-names_temporary
unfolding popped records_popped rows_popped sets_popped
returns-then-names_temporary c =
    simp (le-ltb _ _ c.if-open_branches-depth.false, ← c.names_temporary.ensures, c.if-names_temporary.true) (record { value = refl; records_after = refl; rows_after = refl; sets_after = refl })

pub returns-then-nowhere_recorded : goal.returns-then-nowhere_recorded
unfolding popped records_popped rows_popped sets_popped
returns-then-nowhere_recorded c =
    let named = c.names_temporary.ensures in
    let past = c.nowhere_recorded.ensures in
    simp (le-ltb _ _ c.if-open_branches-depth.false, ← named, c.if-names_temporary.false, ← past, c.if-nowhere_recorded.true) (record { value = refl; records_after = refl; rows_after = refl; sets_after = refl })

pub returns : goal.returns
unfolding popped
returns c =
    let a = c.args in
    let open-enough = le-ltb _ _ c.if-open_branches-depth.false in
    let named = c.names_temporary.ensures in
    let past = c.nowhere_recorded.ensures in
    let closes : popped a.records.now a.stack.now.rows a.stack.now.sets a.open_branches a.depth a.variables.now ≡ Ok (a.open_branches - a.depth) =
    simp (open-enough, ← named, c.if-names_temporary.false, ← past, c.if-nowhere_recorded.false)
    in
    let met = c.meet-met.ensures in
    let joined = c.join_variables.ensures in (record { value = sym closes; records_after = c.close_variables.ensures ∙ records_popped_lem _ _ _ _ _ _ _ _ closes met joined; rows_after = c.put_top.ensures.rows_after ∙ rows_popped_lem _ _ _ _ _ _ _ _ closes met joined; sets_after = c.put_top.ensures.sets_after ∙ sets_popped_lem _ _ _ _ _ _ _ _ closes met joined })

-- `branches::take_safety`: from v on the members make of the sets so far what all members make. Assumes nothing.
use mathlib.Core.Path.{refl, ap, ◌∙◌}
use Rattle.std.specs.Prelude.{◌<◌}
use Rattle.std.proofs.Common.{arith}
use Rattle.sizes.specs.Sizes.{variables}
use Rattle.branches.specs.declared.Guards.{Guards}
use Rattle.branches.specs.ListLaws.{each_member, each_member_end}
use Rattle.branches.specs.Branches.{inserted_if, safety_taken}
use Rattle.branches.specs.BranchesLaws.{shallow_if_member, deep_if_member}
use Rattle.branches.proofs.take_safety.Goals as goal

pub loop-v-init : goal.loop-v-init
loop-v-init c = (refl, refl)

pub loop-v-preserved : goal.loop-v-preserved
loop-v-preserved c =
    let a = c.args in
    let l = c.loop-v in
    let more : l.v < variables = omega (arith, c.loop-v-test.true, c.past_last-v-end.ensures.within) in
    let guards = c.member_guards-guards.ensures in (
      each_member _ l.v variables _ _ l.invariant.0 more (c.insert_if-shallow.ensures ∙ ap (λ (g : Guards). inserted_if l.shallow l.v g.shallow) guards ∙ shallow_if_member a.records.now a.top l.shallow l.v),
      each_member _ l.v variables _ _ l.invariant.1 more (c.insert_if-deep.ensures ∙ ap (λ (g : Guards). inserted_if l.deep l.v g.deep) guards ∙ deep_if_member a.records.now a.top l.deep l.v),
    )

pub returns : goal.returns
unfolding safety_taken
returns c =
    let l = c.loop-v in
    let none = c.past_last-v-end.ensures.none_from l.v c.loop-v-test.false in
    let shallow = each_member_end _ l.v variables _ l.invariant.0 none in
    let deep = each_member_end _ l.v variables _ l.invariant.1 none in
    simp (shallow, deep, c.empty.ensures)

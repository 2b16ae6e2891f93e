-- `branches::meet`: from a level on those removed make of the sets so far what all those removed make.
-- Assumes nothing.
use mathlib.Core.Path.{refl, ap, ◌∙◌}
use Rattle.bit_set.specs.BitSet.{union}
use Rattle.branch_stack.specs.declared.BranchOccurrences.{BranchOccurrences}
use Rattle.branches.specs.ListLaws.{each_number, each-number-end}
use Rattle.branches.specs.Branches.{branch_met}
use Rattle.branches.proofs.meet.Goals as goal

pub loop-level-init : goal.loop-level-init
loop-level-init c = (refl, refl)

pub loop-level-preserved : goal.loop-level-preserved
loop-level-preserved c =
    let l = c.loop-level in
    let more = c.loop-level-test.true in
    let removed = c.load-removed.ensures in (
      each_number _ l.level _ l.invariant.0 more (c.union_with-shallow.ensures ∙ ap (λ (b : BranchOccurrences). union l.shallow b.shallow_safety) removed),
      each_number _ l.level _ l.invariant.1 more (c.union_with-deep.ensures ∙ ap (λ (b : BranchOccurrences). union l.deep b.deep_safety) removed),
    )

pub returns : goal.returns
unfolding branch_met
returns c =
    let l = c.loop-level in
    let shallow = each-number-end _ l.level _ l.invariant.0 c.loop-level-test.false in
    let deep = each-number-end _ l.level _ l.invariant.1 c.loop-level-test.false in
    simp (shallow, deep, c.top_of-top.ensures)

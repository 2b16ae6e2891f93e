-- `restricting_sets::with_uses`: each way of the code is a way of the definition. Assumes nothing.
use mathlib.Core.Path.{ap, ◌∙◌}
use native.Mathlib.Omega.{arith}
use Rattle.bit_set.specs.BitSet.{union}
use Rattle.restricting_sets.specs.StepLaws.{with_own, with_earlier_lem, with_later}
use Rattle.restricting_sets.proofs.with_uses.Goals as goal

pub returns-then-u-v : goal.returns-then-u-v
returns-then-u-v c = with_own _ _ _ _ _ (omega arith) c.if-u-v.true

pub returns-then-u-v-2 : goal.returns-then-u-v-2
returns-then-u-v-2 c =
    c.union_with.ensures ∙ with_earlier_lem _ _ _ _ _ (omega arith) (omega arith) c.if-u-v.false c.if-u-v-2.true

pub returns : goal.returns
returns c =
    c.union_with-2.ensures
    ∙ ap (union _) c.without.ensures
    ∙ with_later _ _ _ _ _ (omega arith) c.if-u-v.false c.if-u-v-2.false

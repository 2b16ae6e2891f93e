-- `valid_states::are_permanent`: the test of the numbers of variables is the definition's. Assumes nothing.
use Rattle.std.proofs.Common.{refl, ◌∙◌, rules, arith}
use borrow.Author.Tests.{tests}
use Rattle.std.proofs.lemmas.Iterator.{YieldsList-from_range}
use Rattle.std.proofs.lemmas.Iterator.Search.{all_from_yields_List}
use Rattle.std.specs.Prelude.{ℕ, not, ◌&&◌, ◌||◌, ltb}
use Rattle.sizes.specs.Sizes.{variables}
use Rattle.bit_set.specs.BitSet.{has}
use Rattle.variable_records.specs.Rows.{is_temporary}
use Rattle.valid_states.proofs.BelowLaws.{range-below}
use Rattle.valid_states.proofs.are_permanent.Goals as goal

pub returns : goal.returns
returns c =
    let a = c.args in
    let test = λ (v : ℕ). not (has a.set v) || ltb v a.counters.records && not (is_temporary a.records.now v) in
    all_from_yields_List test _ _ _ c.all.ensures.ran (YieldsList-from_range 0 variables variables refl (omega arith)) (λ x b q k. search (rules, tests))
    ∙ range-below test variables

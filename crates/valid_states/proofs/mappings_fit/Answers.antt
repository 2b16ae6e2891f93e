-- `valid_states::mappings_fit`: the test of the table's entries is the definition's. Assumes nothing.
use Rattle.std.specs.Prelude.{ℕ, ◌+◌, ◌&&◌, ◌||◌, eqb, ltb}
use Rattle.std.proofs.Common.{◌∙◌, rules}
use borrow.Author.Tests.{tests}
use Rattle.std.proofs.lemmas.Iterator.{YieldsList-from_slice}
use Rattle.std.proofs.lemmas.Iterator.Search.{all_from_yields_List}
use Rattle.sizes.specs.Sizes.{registers}
use Rattle.variable_records.specs.Rows.{is_temporary}
use Rattle.shallow_temp_mappings.specs.Mappings.{unmapped}
use Rattle.valid_states.proofs.BelowLaws.{list-below}
use Rattle.valid_states.proofs.mappings_fit.Goals as goal

pub returns : goal.returns
returns c =
    let a = c.args in
    let test = λ (v : ℕ). eqb v unmapped || ltb v a.counters.records && is_temporary a.records.now v in
    all_from_yields_List test _ _ _ c.all.ensures.ran (YieldsList-from_slice a.mappings.now cc) (λ x b q k. search (rules, tests))
    ∙ list-below test a.mappings.now (registers + 1) c.told-mappings

-- `valid_states::variables_fit`: the test of the variables is the definition's. Assumes nothing.
use Rattle.std.proofs.Common.{refl, ◌∙◌, rules, arith}
use borrow.Author.Tests.{tests}
use Rattle.std.proofs.lemmas.Iterator.{YieldsList-from_range}
use Rattle.std.proofs.lemmas.Iterator.Search.{all_from_yields_List}
use Rattle.valid_states.specs.Parts.{of_sets}
use Rattle.valid_states.specs.ValidStates.{variable_fits}
use Rattle.valid_states.proofs.BelowLaws.{range-below}
use Rattle.valid_states.proofs.variables_fit.Goals as goal

pub returns : goal.returns
returns c =
    let a = c.args in
    let test = variable_fits (of_sets a.counters a.records.now a.sets.now) in
    all_from_yields_List test _ _ _ c.all.ensures.ran (YieldsList-from_range 0 a.counters.records a.counters.records refl (omega arith)) (λ x b q k. search (rules, tests))
    ∙ range-below test a.counters.records

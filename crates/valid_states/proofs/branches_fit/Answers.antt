-- `valid_states::branches_fit`: the test of the open branches is the definition's. Assumes nothing.
use Rattle.std.proofs.Common.{refl, ◌∙◌, rules, arith}
use borrow.Author.Tests.{tests}
use Rattle.std.proofs.lemmas.Iterator.{YieldsList-from_range}
use Rattle.std.proofs.lemmas.Iterator.Search.{all_from_yields_List}
use Rattle.valid_states.specs.Parts.{of_branches}
use Rattle.valid_states.specs.ValidStates.{branch_fits}
use Rattle.valid_states.proofs.BelowLaws.{range-below}
use Rattle.valid_states.proofs.branches_fit.Goals as goal

pub returns : goal.returns
returns c =
    let a = c.args in
    let test = branch_fits (of_branches a.counters a.records.now a.branches.now) in
    all_from_yields_List test _ _ _ c.all.ensures.ran (YieldsList-from_range 0 a.counters.open_branches a.counters.open_branches refl (omega arith)) (λ x b q k. search (rules, tests))
    ∙ range-below test a.counters.open_branches

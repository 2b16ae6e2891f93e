-- `valid_states::freed_slots_fit`: the test of the entries that count is the definition's. Assumes nothing.
use Rattle.std.proofs.Common.{refl, ◌∙◌, rules, arith}
use borrow.Author.Tests.{tests}
use Rattle.std.proofs.lemmas.Iterator.{YieldsList-from_range}
use Rattle.std.proofs.lemmas.Iterator.Search.{all_from_yields_List}
use Rattle.valid_states.specs.Parts.{of_freed_slots}
use Rattle.valid_states.specs.ValidStates.{freed_slot_fits}
use Rattle.valid_states.proofs.BelowLaws.{range-below}
use Rattle.valid_states.proofs.freed_slots_fit.Goals as goal

pub returns : goal.returns
returns c =
    let a = c.args in
    let test = freed_slot_fits (of_freed_slots a.counters a.list.now) in
    all_from_yields_List test _ _ _ c.all.ensures.ran (YieldsList-from_range 0 a.counters.freed_slots a.counters.freed_slots refl (omega arith)) (λ x b q k. search (rules, tests))
    ∙ range-below test a.counters.freed_slots

-- `choice::least_free`: the search goes over the registers from `temp_lb` on. Assumes nothing.
use Rattle.std.specs.Prelude.{suc, ◌-◌}
use Rattle.std.proofs.Common.{refl, sym, ap, ◌∙◌, rules}
use borrow.Author.Tests.{tests}
use Rattle.std.proofs.lemmas.Iterator.{YieldsList-from_range}
use Rattle.std.proofs.lemmas.Iterator.Adapters.{option_map_id}
use Rattle.std.proofs.lemmas.Iterator.Search.{find_from_yields_List}
use Rattle.sizes.specs.Sizes.{registers}
use Rattle.choice.specs.Choice.{is_free, first, registers_from, least_free}
use Rattle.choice.proofs.FoundLaws.{find-first, range-numbers}
use Rattle.choice.proofs.least_free.Goals as goal

pub returns : goal.returns
unfolding least_free registers_from
returns c =
    let a = c.args in
    let found = find_from_yields_List (is_free a.counters a.avoided) _ _ c.find.result c.find.ensures.ran (YieldsList-from_range a.counters.temp_lb (suc registers) (suc registers - a.counters.temp_lb) refl refl) (λ x b q k. search (rules, tests)) in
    sym (option_map_id c.find.result)
    ∙ found
    ∙ find-first _ _
    ∙ ap (first (is_free a.counters a.avoided)) (range-numbers a.counters.temp_lb (suc registers - a.counters.temp_lb))

-- `choice::first_unused`: the search goes over the registers of the use set. Assumes nothing.
use Rattle.std.specs.Prelude.{not}
use Rattle.std.proofs.Common.{sym, ◌∙◌, rules}
use borrow.Author.Tests.{tests}
use Rattle.std.proofs.lemmas.Iterator.{YieldsList-from_slice, YieldsList-from_map}
use Rattle.std.proofs.lemmas.Iterator.Adapters.{option_map_id}
use Rattle.std.proofs.lemmas.Iterator.Consumers.{YieldsList-at}
use Rattle.std.proofs.lemmas.Iterator.Search.{find_from_yields_List}
use Rattle.temp_var_data.specs.Uses.{register_of}
use Rattle.choice.specs.Choice.{in_use, first_unused}
use Rattle.choice.proofs.FoundLaws.{find-first}
use Rattle.choice.proofs.first_unused.Goals as goal

pub returns : goal.returns
unfolding first_unused
returns c =
    let a = c.args in
    let found = find_from_yields_List (λ r. not (in_use a.counters r)) _ _ c.find.result c.find.ensures.ran (YieldsList-from_map _ register_of (YieldsList-at c.map.ensures.source (YieldsList-from_slice a.use_set.now cc)) c.map.ensures.closure (λ x r q k. search (rules, tests))) (λ x b q k. search (rules, tests)) in
    sym (option_map_id c.find.result) ∙ found ∙ find-first _ _

-- `events::all_fit`: the test of all entries is made entry by entry, as in the definition. Assumes nothing.
use Rattle.std.specs.Prelude.{ℕ, ◌≡◌, refl, Bool, ◌&&◌, List, [], ◌∷◌}
use Rattle.std.specs.List.{list_all}
use Rattle.std.proofs.Common.{ap, ◌∙◌, rules}
use borrow.Author.Tests.{tests}
use Rattle.std.proofs.lemmas.Iterator.{YieldsList-from_slice}
use Rattle.std.proofs.lemmas.Iterator.Search.{all_from_yields_List}
use Rattle.events.specs.declared.Entries.{Entries}
use Rattle.events.specs.Events.{entry_fits, all_fit}
use Rattle.events.proofs.all_fit.Goals as goal

listed : (entries : Entries) (records : ℕ) (ns : List ℕ) → list_all (entry_fits entries records) ns ≡ all_fit entries records ns
unfolding all_fit
listed entries records [] = refl
listed entries records (n ∷ ns) = ap (λ (t : Bool). entry_fits entries records n && t) (listed entries records ns)

pub returns : goal.returns
returns c =
    let a = c.args in
    all_from_yields_List (entry_fits a.entries a.records) _ _ _ c.all.ensures.ran (YieldsList-from_slice a.list.now cc) (λ x b q k. search (rules, tests))
    ∙ listed a.entries a.records a.list.now

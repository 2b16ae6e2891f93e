-- `valid_states::uses_fit`: the test of the uses that count is the definition's. Assumes nothing.
use Rattle.std.specs.Prelude.{ℕ, ◌*◌, ◌≡◌, min, get_or, take, drop}
use Rattle.std.specs.List.{list_all}
use Rattle.std.proofs.Common.{ap, ◌∙◌, rules, arith, length-drop}
use borrow.Author.Tests.{tests, le-leb}
use Rattle.std.proofs.lemmas.Iterator.{YieldsList-from_slice}
use Rattle.std.proofs.lemmas.Iterator.Search.{all_from_yields_List}
use Rattle.sizes.specs.Sizes.{uses}
use Rattle.temp_var_data.specs.Uses.{uses_of}
use Rattle.events.specs.Events.{is_use}
use Rattle.valid_states.specs.ValidStatesLaws.{passed}
use Rattle.valid_states.proofs.BelowLaws.{row-below}
use Rattle.valid_states.proofs.uses_fit.Goals as goal

pub returns-then-sets-v : goal.returns-then-sets-v
unfolding uses_of
returns-then-sets-v c =
    let s = c.args.sets.now in
    let first = c.args.v * uses in
    let count = get_or s.use_counts c.args.v 0 in
    let size : min count uses ≡ count = omega (arith, c.if-sets-v.true) in
    passed (le-leb _ _ c.if-sets-v.true)
    (all_from_yields_List is_use _ _ _ c.all.ensures.ran (YieldsList-from_slice (uses_of s.use_sets s.use_counts c.args.v) cc) (λ x b q k. search (rules, tests))
    ∙ ap (λ (n : ℕ). list_all is_use (take n (drop first s.use_sets))) size
    ∙ row-below is_use s.use_sets first count (omega (arith, c.if-sets-v.true, c.requires, length-drop first s.use_sets)))

-- `restricting_sets::chunk_of`: past the last entry there is no chunk, and none is past the last number. Assumes nothing.
use Rattle.std.proofs.Common.{rules, sym, ap, ◌≡◌, ◌∙◌, ℕ, Bool, arith}
use Rattle.std.specs.Prelude.{Option, Some, None}
use Rattle.std.specs.Bool.{then_some}
use Rattle.std.specs.Option.{MatchOption}
use lib.ListN.{get_or-eq_default}
use Rattle.sizes.specs.Sizes.{is_chunk}
use Rattle.restricting_sets.specs.Restricting.{chunk_of, known_chunk}
use Rattle.restricting_sets.proofs.chunk_of.Goals as goal

filtered :
    (Gives : ℕ → Bool → Type 0) (entry kept : Option ℕ) → ((x : ℕ) (b : Bool) → Gives x b → b ≡ is_chunk x)
    → MatchOption entry (kept ≡ None) (λ x. (b : Bool) × Gives x b × (kept ≡ then_some b x)) → kept ≡ known_chunk entry
filtered Gives None kept tests none = none
filtered Gives (Some x) kept tests (b, gives, is) = is ∙ ap (λ (t : Bool). then_some t x) (tests x b gives)

pub returns-then-row-ge-VARIABLES : goal.returns-then-row-ge-VARIABLES
unfolding chunk_of
returns-then-row-ge-VARIABLES c = ap known_chunk (sym (get_or-eq_default c.args.chunks.now None (omega arith)))

pub returns : goal.returns
unfolding chunk_of
returns c = filtered _ _ _ (λ x b gives. search rules) c.filter.ensures

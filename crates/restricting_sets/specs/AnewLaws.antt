-- Laws of a table of sets that is made anew, set by set.
use Rattle.std.specs.Prelude.{ℕ, zero, suc, ◌+◌, ◌≤◌, ◌<◌, ◌≡◌, length}
use Rattle.std.proofs.Math.Path.{refl, ap}
use Rattle.std.proofs.Common.{sym, ◌∙◌, ⊎_elim, eq-or-lt_of_le, add-one, arith}
use mathlib.Core.List.{List, [], ◌∷◌, foldl, foldl-append}
use Rattle.sizes.specs.Sizes.{variables}
use Rattle.register_sets.specs.RegisterSets.{set_at, set_put}
use Rattle.register_sets.specs.RegisterSetsLaws.{set_put-same, set_put-other, set_put-length}
use Rattle.restricting_sets.specs.Restricting.{below, sets_anew}

module _ (f : ℕ → ℕ → ℕ) (sets : List ℕ) where
  -- the sets of the variables below v are made
  unfoldable pub first_anew : ℕ → List ℕ
  first_anew v = foldl (λ table w. set_put table w (f (set_at sets w) w)) sets (below v)

  pub anew_none : sets ≡ first_anew 0
  unfolding first_anew below
  anew_none = refl

  one_more : (v : ℕ) → first_anew (suc v) ≡ set_put (first_anew v) v (f (set_at sets v) v)
  unfolding first_anew below
  one_more v = foldl-append _ sets (below v) (v ∷ [])

  -- the set of a variable to come is what it was
  to_come : (v w : ℕ) → v ≤ w → w < variables → set_at (first_anew v) w ≡ set_at sets w
  to_come zero w h known = ap (λ (table : List ℕ). set_at table w) (sym anew_none)
  to_come (suc v) w h known =
      rw (one_more v) (set_put-other (first_anew v) v w _ (omega arith) known (omega arith) ∙ to_come v w (omega arith) known)

  -- a set is loaded, made anew and stored
  pub anew_next :
      (v : ℕ) {table after : List ℕ} {was made : ℕ} → v < variables → table ≡ first_anew v
      → was ≡ set_at table v → made ≡ f was v → after ≡ set_put table v made → after ≡ first_anew (v + 1)
  anew_next v {table} {after} {was} known so loaded anew stored =
      let before : was ≡ set_at sets v = loaded ∙ ap (λ (t : List ℕ). set_at t v) so ∙ to_come v v (omega arith) known in
      rw (add-one v, one_more v, stored, so, anew, before)

  pub anew_end : (v : ℕ) → v ≡ variables → first_anew v ≡ sets_anew f sets
  unfolding first_anew sets_anew
  anew_end v all = ap first_anew all

  first-length : (v : ℕ) → length (first_anew v) ≡ length sets
  first-length zero = ap length (sym anew_none)
  first-length (suc v) = rw (one_more v) (set_put-length (first_anew v) v _ ∙ first-length v)

  pub anew_length : length (sets_anew f sets) ≡ length sets
  unfolding first_anew sets_anew
  anew_length = first-length variables

  module _ (full : length sets ≡ variables) where
    first_at : (v w : ℕ) → v ≤ variables → w < v → set_at (first_anew v) w ≡ f (set_at sets w) w
    first_at zero w h less = absurd (omega arith)
    first_at (suc v) w h less =
        rw (one_more v)
        (⊎_elim
        (λ same. rw same (set_put-same (first_anew v) v _ (first-length v ∙ full)))
        (λ earlier. set_put-other (first_anew v) v w _ (omega arith) (omega arith) (omega arith) ∙ first_at v w (omega arith) earlier)
        (eq-or-lt_of_le (let l : w ≤ v = omega arith in l)))

    -- a set of the table
    pub anew_at : (v : ℕ) → v < variables → set_at (sets_anew f sets) v ≡ f (set_at sets v) v
    unfolding first_anew sets_anew
    anew_at v known = first_at variables v (omega arith) known

-- What `sets` makes of each set, as plain facts.
use Rattle.std.specs.Prelude.{ℕ, ◌≤◌, ◌<◌, ◌≡◌, refl, true, false, ◌&&◌, ◌||◌, List, [], ◌∷◌, ◌++◌, ◌↔◌, ◌⊎◌, eqb, ltb, length, take, replicate, Option, Some}
use Rattle.std.proofs.Common.{sym, ◌∙◌}
use Rattle.std.proofs.Math.Path.{ap}
use Rattle.std.proofs.Math.Bool.{not, false≢true}
use Rattle.std.proofs.Math.Logic.{⊎_map}
use borrow.Author.Tests.{eqb-false, ne_eqb, ltb-true, lt-ltb, not-true}
use Rattle.notation.specs.ChoiceLaws.{both_true}
use Rattle.sizes.specs.Sizes.{variables, registers}
use Rattle.bit_set.specs.BitSet.{has, empty_set, inserted}
use Rattle.bit_set.specs.Collected.{collected_below, collected}
use Rattle.bit_set.specs.CollectedLaws.{has-collected}
use Rattle.register_sets.specs.RegisterSets.{set_at, set_put}
use Rattle.temp_var_data.specs.TestLaws.{refuted, either_exactly}
use Rattle.temp_var_data.specs.Lists.{any, ◌∈◌}
use Rattle.temp_var_data.specs.Uses.{last_context, use_code, register_of, uses_of, uses_register, contains_use, conflict_of}
use Rattle.temp_var_data.specs.UsesLaws.{uses_register_exactly, contains_use_exactly}
use Rattle.restricting_sets.specs.Restricting.{below, sets_anew, chunk_of, is_temporary, before_or_free, restricts, no_use_of, conflict_at}
use Rattle.restricting_sets.specs.BelowLaws.{any-below_exactly}
use Rattle.restricting_sets.specs.AnewLaws.{anew_at}
use Rattle.restricting_sets.specs.StepLaws.{no_use-kept, conflict_kept, conflict_made}

module _ (use_sets use_counts : List ℕ) (chunks : List (Option ℕ)) (v r : ℕ) where
  -- u comes before v, or v has no use of r
  abbrev pub BeforeOrFree : ℕ → Type 0
  BeforeOrFree u = (u < v) ⊎ ((code : ℕ) → code ∈ uses_of use_sets use_counts v → r ≡ register_of code → ⊥)

  pub before_or_free_exactly : (u : ℕ) → (before_or_free use_sets use_counts u v r ≡ true) ↔ BeforeOrFree u
  unfolding before_or_free
  before_or_free_exactly u =
      let used = uses_register_exactly (uses_of use_sets use_counts v) r in
      let either = either_exactly (ltb u v) (not (uses_register (uses_of use_sets use_counts v) r)) in (
        λ h. ⊎_map (ltb-true u v) (λ f code s e. false≢true (sym (not-true _ f) ∙ used.1 (code, s, e))) (either.0 h),
        λ s. either.1 (⊎_map (lt-ltb u v) (λ f. ap not (refuted _ (λ e. (let u = used.0 e in f u.0 u.1 u.2)))) s),
      )

  -- u is another temporary, has a use of r in the last goal of v's chunk, and one of these two holds
  abbrev pub Restricts : ℕ → ℕ → Type 0
  Restricts chunk u =
      (is_temporary chunks u ≡ true) × (u ≡ v → ⊥)
      × (use_code (last_context chunk) r ∈ uses_of use_sets use_counts u)
      × BeforeOrFree u

  pub restricts_exactly : (chunk u : ℕ) → (restricts use_sets use_counts chunks chunk u v r ≡ true) ↔ Restricts chunk u
  unfolding restricts
  restricts_exactly chunk u =
      let used = contains_use_exactly (uses_of use_sets use_counts u) (use_code (last_context chunk) r) in
      let either = before_or_free_exactly u in (
        λ h. (let b = both_true _ (before_or_free use_sets use_counts u v r) h in
            let s = both_true (is_temporary chunks u && not (eqb u v)) _ b.0 in
            let t = both_true (is_temporary chunks u) (not (eqb u v)) s.0 in
            (t.0, eqb-false u v (not-true _ t.1), used.0 s.1, either.0 b.1)),
        λ s. simp (s.0, ne_eqb u v s.1, used.1 s.2, either.1 s.3),
      )

  module _
      (no_use : List ℕ) (full : length no_use ≡ variables) (inside : v < variables) (chunk : ℕ) (temporary : chunk_of chunks v ≡ Some chunk)
      (h : r ≤ registers) where
    no_use_test :
        has (set_at (sets_anew (no_use_of use_sets use_counts chunks) no_use) v) r
        ≡ (has (set_at no_use v) r || any (λ u. restricts use_sets use_counts chunks chunk u v r) (below variables))
    unfolding no_use_of
    no_use_test = rw (anew_at (no_use_of use_sets use_counts chunks) no_use full v inside) (simp temporary (has-collected _ r h))

    -- rule 7.2: v's no_use_lem set has r exactly if it had r before, or there is such a u
    pub no_use_exactly :
        (has (set_at (sets_anew (no_use_of use_sets use_counts chunks) no_use) v) r ≡ true)
        ↔ ((has (set_at no_use v) r ≡ true) ⊎ ((u : ℕ) × (u < variables) × Restricts chunk u))
    no_use_exactly =
        let some = any-below_exactly (λ u. restricts use_sets use_counts chunks chunk u v r) variables in
        let either = either_exactly (has (set_at no_use v) r) (any (λ u. restricts use_sets use_counts chunks chunk u v r) (below variables)) in (
          λ e. ⊎_map (λ was. was) (λ a. (let s = some.0 a in (s.0, s.1, (restricts_exactly chunk s.0).0 s.2))) (either.0 (sym no_use_test ∙ e)),
          λ e. no_use_test ∙ either.1 (⊎_map (λ was. was) (λ s. some.1 (s.0, s.1, (restricts_exactly chunk s.0).1 s.2)) e),
        )

-- ---- The other sets

module _ (use_sets use_counts : List ℕ) (chunks : List (Option ℕ)) (v : ℕ) (inside : v < variables) where
  -- rule 7.3: a temporary's conflict set is made anew
  pub conflict_anew :
      (conflict : List ℕ) → length conflict ≡ variables → is_temporary chunks v ≡ true
      → set_at (sets_anew (conflict_at use_sets use_counts chunks) conflict) v ≡ conflict_of (uses_of use_sets use_counts v)
  conflict_anew conflict full e = anew_at _ conflict full v inside ∙ conflict_made use_sets use_counts chunks v (set_at conflict v) e

  -- the sets of a permanent variable stay
  pub no_use_stays :
      (no_use : List ℕ) → length no_use ≡ variables → is_temporary chunks v ≡ false
      → set_at (sets_anew (no_use_of use_sets use_counts chunks) no_use) v ≡ set_at no_use v
  no_use_stays no_use full e = anew_at _ no_use full v inside ∙ no_use-kept use_sets use_counts chunks v (set_at no_use v) e

  pub conflict_stays :
      (conflict : List ℕ) → length conflict ≡ variables → is_temporary chunks v ≡ false
      → set_at (sets_anew (conflict_at use_sets use_counts chunks) conflict) v ≡ set_at conflict v
  conflict_stays conflict full e = anew_at _ conflict full v inside ∙ conflict_kept use_sets use_counts chunks v (set_at conflict v) e

-- ---- Rule 24.2: two temporaries of chunk 1, each with the one use l1:2, have the no_use_lem sets {} and {2}

abbrev row : List ℕ
row = use_code (last_context 1) 2 ∷ replicate 15 0

pub no_use_of-sheet_2 :
    take 2 (sets_anew (no_use_of (row ++ row) (1 ∷ 1 ∷ []) (Some 1 ∷ Some 1 ∷ [])) (empty_set ∷ empty_set ∷ []))
    ≡ empty_set ∷ inserted empty_set 2 ∷ []
unfolding sets_anew set_at set_put below no_use_of restricts is_temporary chunk_of before_or_free uses_of uses_register contains_use any collected collected_below inserted has
no_use_of-sheet_2 = refl

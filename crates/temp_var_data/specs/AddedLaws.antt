-- Laws of one use more: it stands last in its variable's use set, and nothing else changes.
use Prim.Native.Nat.{ℕ, suc, ◌+◌, ◌-◌, ◌*◌, ◌≤◌, ◌<◌, min}
use Rattle.std.specs.Prelude.{◌≡◌, ◌&&◌, List, [], ◌∷◌, ◌++◌, get_or, drop}
use Rattle.std.proofs.Math.Path.{refl}
use Rattle.std.proofs.Math.Bool.{true, false, and-false}
use native.Mathlib.Omega.{arith}
use Rattle.std.proofs.Math.Dec.{ltb}
use Rattle.std.proofs.Math.ListN.{length, take, set, length-set, length-drop}
use Rattle.std.proofs.Common.{get_or-set_same, get_or-set_other, take-suc-set, drop-set-lt}
use Rattle.std.proofs.lemmas.List.{take-set-le}
use Rattle.std.proofs.Math.Seq.{drop-set-add}
use borrow.Author.Tests.{lt-ltb, le-ltb, ltb-true, ltb-false}
use Rattle.std.specs.Prelude.{if◌then◌else◌}
use Rattle.notation.specs.ChoiceLaws.{both_true}
use Rattle.sizes.specs.Sizes.{variables, uses}
use Rattle.temp_var_data.specs.Uses.{uses_of, contains_use, takes_use, use_sets_with, use_counts_with, UseAdded}

-- what is stored behind a part of a list does not touch it
behind : (l : List ℕ) (from n i a : ℕ) → from + n ≤ i → take n (drop from (set l i a)) ≡ take n (drop from l)
behind l from n i a h =
    let e : i ≡ from + (i - from) = omega arith in
    rw (e, drop-set-add from l (i - from) a) (take-set-le n (drop from l) (i - from) a (omega arith))

module _ (use_sets use_counts : List ℕ) (v code : ℕ) where
  abbrev count : ℕ
  count = get_or use_counts v 0

  -- ---- The ways of the code

  pub takes_not : variables ≤ v → takes_use use_sets use_counts v code ≡ false
  unfolding takes_use
  takes_not h = simp (le-ltb _ _ h)

  pub takes_no_more : v < variables → uses ≤ count → takes_use use_sets use_counts v code ≡ false
  unfolding takes_use
  takes_no_more h k = simp (lt-ltb _ _ h, le-ltb _ _ k)

  pub takes_no_repeat : contains_use (uses_of use_sets use_counts v) code ≡ true → takes_use use_sets use_counts v code ≡ false
  unfolding takes_use
  takes_no_repeat e = simp (e, and-false)

  pub takes_new :
      v < variables → count < uses → contains_use (uses_of use_sets use_counts v) code ≡ false
      → takes_use use_sets use_counts v code ≡ true
  unfolding takes_use
  takes_new h k e = simp (lt-ltb _ _ h, lt-ltb _ _ k, e)

  pub use_ignored : takes_use use_sets use_counts v code ≡ false → UseAdded use_sets use_counts v code use_sets use_counts
  unfolding use_sets_with use_counts_with
  use_ignored e = record { sets = simp e; counts = simp e }

  pub use_taken :
      takes_use use_sets use_counts v code ≡ true
      → UseAdded use_sets use_counts v code (set use_sets (v * uses + count) code) (set use_counts v (count + 1))
  unfolding use_sets_with use_counts_with
  use_taken e = record { sets = simp e; counts = simp e }

  -- ---- The tables keep their size

  pub use_sets-length : length (use_sets_with use_sets use_counts v code) ≡ length use_sets
  unfolding use_sets_with
  use_sets-length =
      elim (takes_use use_sets use_counts v code) as
      (λ t. length (if t then set use_sets (v * uses + count) code else use_sets) ≡ length use_sets)
      [ true ↦ length-set use_sets (v * uses + count) code | false ↦ refl ]

  pub use_counts-length : length (use_counts_with use_sets use_counts v code) ≡ length use_counts
  unfolding use_counts_with
  use_counts-length =
      elim (takes_use use_sets use_counts v code) as
      (λ t. length (if t then set use_counts v (count + 1) else use_counts) ≡ length use_counts)
      [ true ↦ length-set use_counts v (count + 1) | false ↦ refl ]

  -- ---- The use sets afterwards

  last_in_row :
      v * uses + count < length use_sets → v < length use_counts → count < uses
      → uses_of (set use_sets (v * uses + count) code) (set use_counts v (count + 1)) v ≡ uses_of use_sets use_counts v ++ (code ∷ [])
  unfolding uses_of
  last_in_row room row free =
      let more : min (count + 1) uses ≡ suc count = omega arith in
      let all : min count uses ≡ count = omega arith in
      let inside : count < length (drop (v * uses) use_sets) = omega (arith, length-drop (v * uses) use_sets) in
      rw (get_or-set_same use_counts v (count + 1) 0 row, more, all, drop-set-add (v * uses) use_sets count code)
      (take-suc-set (drop (v * uses) use_sets) count code inside)

  other_row :
      (w : ℕ) → (w ≡ v → ⊥) → count < uses
      → uses_of (set use_sets (v * uses + count) code) (set use_counts v (count + 1)) w ≡ uses_of use_sets use_counts w
  unfolding uses_of
  other_row w other free =
      let n : ℕ = min (get_or use_counts w 0) uses in
      let at : ℕ = v * uses + count in
      rw (get_or-set_other use_counts v w (count + 1) 0 other)
      (elim (ltb w v) as
      (λ t. ltb w v ≡ t → take n (drop (w * uses) (set use_sets at code)) ≡ take n (drop (w * uses) use_sets)) [
        | true ↦ λ e. behind use_sets (w * uses) n at code (omega (arith, ltb-true w v e))
        | false ↦ λ e. rw (drop-set-lt (w * uses) use_sets at code (omega (arith, ltb-false w v e, other)))
      ]
      refl)

  room : takes_use use_sets use_counts v code ≡ true → (v < variables) × (count < uses)
  unfolding takes_use
  room e =
      let b = both_true (ltb v variables && ltb count uses) _ e in
      let r = both_true (ltb v variables) _ b.0 in (ltb-true v variables r.0, ltb-true count uses r.1)

  -- a use that is taken stands last in the use set
  pub uses_added :
      length use_sets ≡ variables * uses → length use_counts ≡ variables
      → uses_of (use_sets_with use_sets use_counts v code) (use_counts_with use_sets use_counts v code) v
      ≡ (if takes_use use_sets use_counts v code then uses_of use_sets use_counts v ++ (code ∷ []) else uses_of use_sets use_counts v)
  unfolding use_sets_with use_counts_with
  uses_added rows counts =
      elim (takes_use use_sets use_counts v code) as
      (λ t. takes_use use_sets use_counts v code ≡ t
      → uses_of (if t then set use_sets (v * uses + count) code else use_sets) (if t then set use_counts v (count + 1) else use_counts) v
      ≡ (if t then uses_of use_sets use_counts v ++ (code ∷ []) else uses_of use_sets use_counts v)) [
        | true ↦ λ e. (let r = room e in last_in_row (omega arith) (omega arith) r.1)
        | false ↦ λ e. refl
      ]
      refl

  -- the use sets of other variables stay
  pub uses-kept :
      (w : ℕ) → (w ≡ v → ⊥)
      → uses_of (use_sets_with use_sets use_counts v code) (use_counts_with use_sets use_counts v code) w ≡ uses_of use_sets use_counts w
  unfolding use_sets_with use_counts_with
  uses-kept w other =
      elim (takes_use use_sets use_counts v code) as
      (λ t. takes_use use_sets use_counts v code ≡ t
      → uses_of (if t then set use_sets (v * uses + count) code else use_sets) (if t then set use_counts v (count + 1) else use_counts) w
      ≡ uses_of use_sets use_counts w)
      [ true ↦ λ e. other_row w other (room e).1 | false ↦ λ e. refl ]
      refl

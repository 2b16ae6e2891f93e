-- Laws of the numbers below a bound.
use Prim.Native.Nat.{ℕ, zero, suc, ◌≤◌, ◌<◌}
use Rattle.std.specs.Prelude.{◌≡◌, Bool, ◌||◌, ◌↔◌, length, get_or}
use Rattle.std.proofs.Math.Path.{refl}
use Rattle.std.proofs.Common.{sym, ap, ◌∙◌, ⊎_elim, eq-or-lt_of_le, arith, length-append}
use Rattle.std.proofs.Math.Bool.{true, false, or-true}
use Rattle.std.proofs.lemmas.Bool.{false≢true}
use mathlib.Core.List.{[], ◌∷◌, ◌++◌, map, map-append}
use Rattle.std.proofs.lemmas.List.{length-map, get_or_at}
use Rattle.std.proofs.Math.ListN.{get_or-append}
use Rattle.temp_var_data.specs.Lists.{any}
use Rattle.temp_var_data.specs.ListLaws.{any_append}
use Rattle.restricting_sets.specs.Restricting.{below}

pub below_length : (n : ℕ) → length (below n) ≡ n
unfolding below
below_length zero = refl
below_length (suc n) = omega (arith, length-append (below n) (n ∷ []), below_length n)

-- ---- Some number below the bound passes

module _ (test : ℕ → Bool) where
  pub any-below-next : (n : ℕ) → any test (below (suc n)) ≡ (any test (below n) || test n)
  unfolding below
  any-below-next n = any_append test (below n) n

  some_below : (n : ℕ) → any test (below n) ≡ true → (u : ℕ) × (u < n) × (test u ≡ true)
  unfolding any below
  some_below zero h = absurd (false≢true h)
  some_below (suc n) h =
      (elim (any test (below n)) as
      (λ t. any test (below n) ≡ t → (t || test n) ≡ true → (u : ℕ) × (u < suc n) × (test u ≡ true)) [
        | true ↦ λ e o. (let s = some_below n e in (s.0, (omega (arith, s.1)), s.2))
        | false ↦ λ e o. (n, (omega arith), o)
      ])
      refl (sym (any-below-next n) ∙ h)

  below-some : (n u : ℕ) → u < n → test u ≡ true → any test (below n) ≡ true
  below-some zero u h e = absurd (omega arith)
  below-some (suc n) u h e =
      rw (any-below-next n)
      (⊎_elim
      (λ same. (let last : test n ≡ true = ap test (sym same) ∙ e in simp (last, or-true)))
      (λ less. simp (below-some n u less e))
      (eq-or-lt_of_le (let l : u ≤ n = omega arith in l)))

  pub any-below_exactly : (n : ℕ) → (any test (below n) ≡ true) ↔ ((u : ℕ) × (u < n) × (test u ≡ true))
  any-below_exactly n = (some_below n, λ s. below-some n s.0 s.1 s.2)

-- ---- A function at each of them

module _ {A : Type 0} (f : ℕ → A) where
  pub map-length : (n : ℕ) → length (map f (below n)) ≡ n
  map-length n = length-map (below n) f ∙ below_length n

  pub map_next : (n : ℕ) → map f (below (suc n)) ≡ map f (below n) ++ (f n ∷ [])
  unfolding below
  map_next n = map-append f (below n) (n ∷ [])

  pub map_at : (n v : ℕ) (default : A) → v < n → get_or (map f (below n)) v default ≡ f v
  map_at zero v default h = absurd (omega arith)
  map_at (suc n) v default h =
      rw (map_next n)
      (⊎_elim
      (λ same. ap (λ (i : ℕ). get_or (map f (below n) ++ (f n ∷ [])) i default) same ∙ get_or_at (map f (below n)) (f n) [] default n (map-length n) ∙ ap f (sym same))
      (λ less. get_or-append (map f (below n)) (f n ∷ []) default v (omega (arith, less, map-length n)) ∙ map_at n v default less)
      (eq-or-lt_of_le (let l : v ≤ n = omega arith in l)))

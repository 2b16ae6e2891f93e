-- Laws of words on lists of numbers.
use Rattle.std.specs.Prelude.{ℕ, suc, ◌≤◌, ◌<◌, ◌≡◌, Bool, ◌||◌, ◌↔◌, length, get_or, take, drop}
use Rattle.std.proofs.Math.Path.{refl, sym, ap}
use Rattle.std.proofs.Common.{◌∙◌, drop_of_length-le, drop-cons, take-suc}
use Rattle.std.proofs.Math.Bool.{true, false, or_assoc, or-false, or-true}
use Rattle.std.proofs.lemmas.Bool.{false≢true}
use mathlib.Core.List.Memᴰ
use mathlib.Core.List.{List, [], ◌∷◌, ◌++◌}
use Rattle.temp_var_data.specs.Lists.{any, ◌∈◌}

module _ (test : ℕ → Bool) where
  pub any_append : (ns : List ℕ) (n : ℕ) → any test (ns ++ (n ∷ [])) ≡ (any test ns || test n)
  unfolding any
  any_append [] n = or-false (test n)
  any_append (m ∷ ms) n = ap (λ (b : Bool). test m || b) (any_append ms n) ∙ sym (or_assoc (test m) (any test ms) (test n))

  -- ---- One entry at a time

  module _ (ns : List ℕ) (i : ℕ) where
    pub any_hit : i < length ns → test (get_or ns i 0) ≡ true → any test (drop i ns) ≡ true
    unfolding any
    any_hit h e = rw (drop-cons ns i 0 h) (simp e)

    pub any-miss : i < length ns → test (get_or ns i 0) ≡ false → any test (drop i ns) ≡ any test (drop (suc i) ns)
    unfolding any
    any-miss h e = rw (drop-cons ns i 0 h) (simp e)

    pub any-end : length ns ≤ i → any test (drop i ns) ≡ false
    unfolding any
    any-end h = rw (drop_of_length-le ns {i = i} h)

    pub any_passed : i < length ns → any test (take (suc i) ns) ≡ (any test (take i ns) || test (get_or ns i 0))
    any_passed h = rw (take-suc ns i 0 h) (any_append (take i ns) (get_or ns i 0))

  -- ---- As a plain fact

  some_entry : (ns : List ℕ) → any test ns ≡ true → (n : ℕ) × (n ∈ ns) × (test n ≡ true)
  unfolding any
  some_entry [] h = absurd (false≢true h)
  some_entry (n ∷ ns) h =
      (elim (test n) as (λ t. test n ≡ t → (t || any test ns) ≡ true → (m : ℕ) × (m ∈ n ∷ ns) × (test m ≡ true)) [
        | true ↦ λ e o. (n, Memᴰ.head refl, e)
        | false ↦ λ e o. (let s = some_entry ns o in (s.0, Memᴰ.tail s.1, s.2))
      ])
      refl h

  entry_some : (ns : List ℕ) (n : ℕ) → n ∈ ns → test n ≡ true → any test ns ≡ true
  unfolding any
  entry_some [] n x'' e = elim x'' [ ]
  entry_some (m ∷ ms) n (Memᴰ.head same) e = simp (ap test (sym same) ∙ e)
  entry_some (m ∷ ms) n (Memᴰ.tail later) e = simp (entry_some ms n later e, or-true)

  pub any_exactly : (ns : List ℕ) → (any test ns ≡ true) ↔ ((n : ℕ) × (n ∈ ns) × (test n ≡ true))
  any_exactly ns = (some_entry ns, λ s. entry_some ns s.0 s.1 s.2)

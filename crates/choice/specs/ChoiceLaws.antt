-- Laws of choosing: a register at a time, and what is chosen as a plain fact.
use Prim.Native.Nat.{ℕ, zero, suc, ◌+◌, ◌-◌, ◌≤◌, ◌<◌}
use Rattle.std.specs.Prelude.{Option, Some, None, ◌≡◌, refl, Bool, true, false, not, ◌&&◌, List, [], ◌∷◌, map, leb, length, get_or, drop}
use Rattle.std.proofs.Common.{ap, ◌∙◌, add-one, drop_of_length-le}
use Rattle.std.proofs.Math.Bool.{and-true, and-false}
use native.Mathlib.Omega.{arith}
use Rattle.std.proofs.Math.Seq.{drop-cons}
use Rattle.std.proofs.lemmas.Bool.{lt-leb}
use Rattle.std.specs.Prelude.{if◌then◌else◌}
use Rattle.notation.specs.Lists.{numbers_from}
use Rattle.sizes.specs.Sizes.{registers}
use Rattle.temp_var_data.specs.Uses.{register_of}
use Rattle.bit_set.specs.BitSet.{has, empty_set}
use Rattle.bit_set.specs.BitSetLaws.{has-empty}
use Rattle.allocator_state.specs.declared.Counters.{Counters}
use Rattle.choice.specs.Choice.{in_use, is_free, first, registers_from}

-- ---- The first of a list, from entry i on

module _ (test : ℕ → Bool) (uses : List ℕ) (i : ℕ) where
  pub first_hit :
      i < length uses → test (register_of (get_or uses i 0)) ≡ true
      → first test (map register_of (drop i uses)) ≡ Some (register_of (get_or uses i 0))
  unfolding first
  first_hit h t = rw (drop-cons uses i 0 h) (simp t)

  pub first-miss :
      i < length uses → test (register_of (get_or uses i 0)) ≡ false
      → first test (map register_of (drop i uses)) ≡ first test (map register_of (drop (i + 1) uses))
  unfolding first
  first-miss h t = rw (add-one i, drop-cons uses i 0 h) (simp t)

  pub first-end : length uses ≤ i → first test (map register_of (drop i uses)) ≡ None
  unfolding first
  first-end h = rw (drop_of_length-le uses {i = i} h)

-- ---- The least register, from r on

module _ (test : ℕ → Bool) (r : ℕ) where
  pub least_hit : r ≤ registers → test r ≡ true → first test (registers_from r) ≡ Some r
  unfolding first registers_from numbers_from
  least_hit h t =
      let e : suc registers - r ≡ suc (registers - r) = omega arith in
      rw e (simp t)

  pub least_miss : r ≤ registers → test r ≡ false → first test (registers_from r) ≡ first test (registers_from (r + 1))
  unfolding first registers_from numbers_from
  least_miss h t =
      let e : suc registers - r ≡ suc (suc registers - (r + 1)) = omega arith in
      rw e (simp t (rw (add-one r)))

  pub least_end : registers < r → first test (registers_from r) ≡ None
  unfolding first registers_from numbers_from
  least_end h =
      let e : suc registers - r ≡ 0 = omega arith in
      rw e

-- ---- Tests that agree choose alike

pub first_agrees : (f g : ℕ → Bool) → ((r : ℕ) → f r ≡ g r) → (rs : List ℕ) → first f rs ≡ first g rs
unfolding first
first_agrees f g e [] = refl
first_agrees f g e (r ∷ rs) =
    ap (λ (t : Bool). if t then Some r else first f rs) (e r)
    ∙ ap (λ (x : Option ℕ). if g r then Some r else x) (first_agrees f g e rs)

-- a range that ends before it begins bars nothing
none_between : (r : ℕ) → (leb 1 r && leb r 0) ≡ false
none_between zero = refl
none_between (suc r) = let e = lt-leb (suc r) 0 (omega arith) in ap (λ (t : Bool). leb 1 (suc r) && t) e ∙ and-false (leb 1 (suc r))

-- with no argument to come and nothing to avoid, only the set bars a register
pub free_outside :
    (c : Counters) (r : ℕ) → c.arg_c ≡ 1 → c.arity ≡ 0 → is_free c empty_set r ≡ not (has c.in_use r)
unfolding is_free in_use
free_outside c r one none =
    simp (one, none, none_between r, has-empty) (and-true (not (has c.in_use r)))

-- Laws of sets given by a test: what is a member, and what the test is after an operation.
use Prim.Native.Nat.{ℕ, zero, suc, ◌-◌, ◌^◌, ◌≤◌, ◌<◌}
use Rattle.std.specs.Prelude.{◌≡◌, refl, Bool, not, ◌&&◌, ◌||◌, eqb, leb}
use Rattle.std.proofs.Common.{sym, ◌∙◌, eq-or-lt_of_le}
use Rattle.std.proofs.Math.Path.{ap}
use Rattle.std.proofs.Math.Bool.{true, false, and-true, and-false, or-false}
use Rattle.std.proofs.Math.Logic.{⊎_elim}
use native.Mathlib.Omega.{arith}
use Rattle.std.specs.Int.Bits.{bit_and, and_le_l}
use borrow.Author.Tests.{leb-true, leb-false, eq-eqb, ne_eqb}
use Rattle.std.specs.Prelude.{if◌then◌else◌}
use Rattle.bit_set.specs.BitSet.{last_member, members, Set, has, inserted, removed}
use Rattle.bit_set.specs.DigitLaws.{has-and, has_complement}
use Rattle.bit_set.specs.BitSetLaws.{has-empty, has-inserted, has-removed, inserted_outside, set-empty, set-inserted, set-removed, same-members}
use Rattle.bit_set.specs.Collected.{collected_below, collected, less}

has-step : (s n q : ℕ) (t : Bool) → n ≤ last_member → has (if t then inserted s n else s) q ≡ (has s q || (t && eqb q n))
has-step s n q t m =
    elim t as (λ t. has (if t then inserted s n else s) q ≡ (has s q || (t && eqb q n)))
    [ true ↦ has-inserted s n q m | false ↦ sym (or-false (has s q)) ]

module _ (test : ℕ → Bool) where
  set_below : (n : ℕ) → Set (collected_below test n)
  unfolding collected_below
  set_below zero = set-empty
  set_below (suc n) =
      elim (test n) as (λ t. Set (if t then inserted (collected_below test n) n else collected_below test n))
      [ true ↦ set-inserted _ n (set_below n) | false ↦ set_below n ]

  none_from : (n q : ℕ) → n ≤ members → n ≤ q → has (collected_below test n) q ≡ false
  unfolding collected_below
  none_from zero q m h = has-empty q
  none_from (suc n) q m h =
      let other : q ≡ n → ⊥ = λ e. omega (arith, e) in
      has-step _ n q (test n) (omega arith)
      ∙ simp (none_from n q (omega arith) (omega arith), ne_eqb q n other, and-false)

  last-below : (n q : ℕ) → suc n ≤ members → q ≡ n → has (collected_below test (suc n)) q ≡ test q
  unfolding collected_below
  last-below n q m e =
      has-step _ n q (test n) (omega arith)
      ∙ simp (none_from n q (omega arith) (omega arith), eq-eqb q n e, and-true) (ap test (sym e))

  some_below : (n q : ℕ) → n ≤ members → q < n → has (collected_below test n) q ≡ test q
  unfolding collected_below
  some_below zero q m h = absurd (omega arith)
  some_below (suc n) q m h =
      ⊎_elim (last-below n q m)
      (λ less. (let other : q ≡ n → ⊥ = λ e. omega (arith, e) in
      has-step _ n q (test n) (omega arith)
      ∙ simp (some_below n q (omega arith) (omega arith), ne_eqb q n other, and-false, or-false)))
      (eq-or-lt_of_le (let l : q ≤ n = omega arith in l))

  pub set-collected : Set (collected test)
  unfolding collected
  set-collected = set_below members

  pub has-collected : (q : ℕ) → q ≤ last_member → has (collected test) q ≡ test q
  unfolding collected
  has-collected q h = some_below members q (omega arith) (omega arith)

-- a set is collected by a test that says what its members are
pub collected-is : (s : ℕ) (test : ℕ → Bool) → Set s → ((q : ℕ) → q ≤ last_member → has s q ≡ test q) → s ≡ collected test
collected-is s test hs e =
    same-members s (collected test) hs (set-collected test) (λ q h. e q h ∙ sym (has-collected test q h))

pub collected-same : (f g : ℕ → Bool) → ((q : ℕ) → q ≤ last_member → f q ≡ g q) → collected f ≡ collected g
collected-same f g e = collected-is (collected f) g (set-collected f) (λ q h. has-collected f q h ∙ e q h)

-- a number past the last changes no member
has-inserted_total : (s n q : ℕ) → q ≤ last_member → has (inserted s n) q ≡ (has s q || eqb q n)
has-inserted_total s n q h =
    elim (leb n last_member) as (λ t. leb n last_member ≡ t → has (inserted s n) q ≡ (has s q || eqb q n)) [
      | true ↦ λ e. has-inserted s n q (leb-true n last_member e)
      | false ↦ λ e. (let l = leb-false n last_member e in
          let other : q ≡ n → ⊥ = λ e. omega (arith, e) in
          simp (inserted_outside s n l, ne_eqb q n other, or-false))
    ]
    refl

pub inserted-collected : (test : ℕ → Bool) (n : ℕ) → inserted (collected test) n ≡ collected (λ q. test q || eqb q n)
inserted-collected test n =
    collected-is _ _ (set-inserted _ n (set-collected test))
    (λ q h. has-inserted_total _ n q h ∙ ap (λ (b : Bool). b || eqb q n) (has-collected test q h))

pub inserted_if_lem :
    (test : ℕ → Bool) (n : ℕ) (t : Bool)
    → (if t then inserted (collected test) n else collected test) ≡ collected (λ q. test q || (t && eqb q n))
inserted_if_lem test n t =
    elim t as (λ t. (if t then inserted (collected test) n else collected test) ≡ collected (λ q. test q || (t && eqb q n)))
    [ true ↦ inserted-collected test n | false ↦ collected-same _ _ (λ q h. sym (or-false (test q))) ]

pub removed-collected : (test : ℕ → Bool) (n : ℕ) → removed (collected test) n ≡ collected (λ q. test q && not (eqb q n))
removed-collected test n =
    collected-is _ _ (set-removed _ n (set-collected test))
    (λ q h. has-removed _ n q (set-collected test) ∙ ap (λ (b : Bool). b && not (eqb q n)) (has-collected test q h))

-- ---- The members of s that are none of t

module _ (s t : ℕ) where
  pub less_masked : Set s → Set t → bit_and s (2 ^ members - 1 - t) ≡ less s t
  unfolding less
  less_masked hs ht =
      collected-is _ _ (omega (arith, and_le_l s (2 ^ members - 1 - t)))
      (λ q h. has-and s (2 ^ members - 1 - t) q ∙ ap (λ (b : Bool). has s q && b) (has_complement members t q (omega arith) ht))

  pub set-less : Set (less s t)
  unfolding less
  set-less = set-collected _

  pub has-less : (q : ℕ) → q ≤ last_member → has (less s t) q ≡ (has s q && not (has t q))
  unfolding less
  has-less = has-collected _

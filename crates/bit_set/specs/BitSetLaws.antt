-- Laws of sets: what is a member after each operation, and that two sets with the same members are the same word.
use Rattle.std.specs.Prelude.{◌≡◌, refl, Bool, true, false, not, ◌&&◌, ◌||◌, ℕ, ◌+◌, ◌-◌, ◌^◌, ◌≤◌, ◌<◌, eqb, leb}
use Rattle.std.proofs.Common.{sym, ap, ◌∙◌, arith, le-leb, leb-true, leb-false, eqb-true}
use Rattle.std.proofs.Math.Bool.{and-true}
use Rattle.std.specs.Int.Bits.{bit_and, bit_or}
use Rattle.std.proofs.lemmas.Nat.{or_lt, and_le_l}
use Rattle.std.proofs.Math.Pow.{pow-lt}
use Rattle.std.proofs.lemmas.Bool.{lt-leb}
use Rattle.std.specs.Prelude.{if◌then◌else◌}
use Rattle.bit_set.specs.BitSet.{last_member, members, Set, has, empty_set, inserted, removed, union}
use Rattle.bit_set.specs.DigitLaws.{has_or, has-and, has-zero, has_pow, has_above, has_complement, same_digits}

set_single : (n : ℕ) → n ≤ last_member → Set (2 ^ n)
set_single n h = let below : n < members = omega arith in pow-lt below

pub has-empty : (q : ℕ) → has empty_set q ≡ false
has-empty = has-zero

-- no set has a member past the last
pub has_outside : (s q : ℕ) → Set s → last_member < q → has s q ≡ false
has_outside s q hs h =
    let e : members + (q - members) ≡ q = omega arith in
    ap (has s) (sym e) ∙ has_above members s (q - members) hs

pub inserted_outside : (s n : ℕ) → last_member < n → inserted s n ≡ s
unfolding inserted
inserted_outside s n h = simp (lt-leb _ _ h)

pub removed_outside : (s n : ℕ) → last_member < n → removed s n ≡ s
unfolding removed
removed_outside s n h = simp (lt-leb _ _ h)

pub has-inserted : (s n q : ℕ) → n ≤ last_member → has (inserted s n) q ≡ (has s q || eqb q n)
unfolding inserted
has-inserted s n q h = simp (le-leb _ _ h) (has_or s (2 ^ n) q ∙ ap (λ (b : Bool). has s q || b) (has_pow n q))

-- what is no member before is none after a removal either
none_left : (s q : ℕ) (b : Bool) → has s q ≡ false → has s q ≡ (has s q && b)
none_left s q b e = e ∙ sym (ap (λ (x : Bool). x && b) e)

-- a removal past the last takes out nothing, and there is nothing to take out
untouched : (s n q : ℕ) → Set s → last_member < n → has s q ≡ (has s q && not (eqb q n))
untouched s n q hs h =
    elim (eqb q n) as (λ t. eqb q n ≡ t → has s q ≡ (has s q && not t)) [
      | true ↦ λ e. none_left s q false (has_outside s q hs (omega (arith, eqb-true q n e)))
      | false ↦ λ e. sym (and-true (has s q))
    ]
    refl

masked : (s n q : ℕ) → Set s → n ≤ last_member → has (removed s n) q ≡ (has s q && not (eqb q n))
unfolding removed
masked s n q hs h =
    simp (le-leb _ _ h)
    (has-and s (2 ^ members - 1 - 2 ^ n) q
    ∙ elim (leb q last_member) as
    (λ t. leb q last_member ≡ t → (has s q && has (2 ^ members - 1 - 2 ^ n) q) ≡ (has s q && not (eqb q n))) [
      | true ↦ λ e. ap (λ (b : Bool). has s q && b) (has_complement members (2 ^ n) q (omega (arith, leb-true q last_member e)) (set_single n h) ∙ ap not (has_pow n q))
      | false ↦ λ e. (let none = has_outside s q hs (leb-false q last_member e) in sym (none_left s q _ none) ∙ none_left s q _ none)
    ]
    refl)

pub has-removed : (s n q : ℕ) → Set s → has (removed s n) q ≡ (has s q && not (eqb q n))
has-removed s n q hs =
    elim (leb n last_member) as
    (λ t. leb n last_member ≡ t → has (removed s n) q ≡ (has s q && not (eqb q n))) [
      | true ↦ λ e. masked s n q hs (leb-true n last_member e)
      | false ↦ λ e. (let h = leb-false n last_member e in ap (λ (x : ℕ). has x q) (removed_outside s n h) ∙ untouched s n q hs h)
    ]
    refl

pub has-union : (s t q : ℕ) → has (union s t) q ≡ (has s q || has t q)
unfolding union
has-union = has_or

-- each operation makes a set of sets
pub set-empty : Set empty_set
set-empty = omega arith

pub set-inserted : (s n : ℕ) → Set s → Set (inserted s n)
unfolding inserted
set-inserted s n hs =
    elim (leb n last_member) as (λ t. leb n last_member ≡ t → Set (if t then bit_or s (2 ^ n) else s))
    [ true ↦ λ e. or_lt members s (2 ^ n) hs (set_single n (leb-true n last_member e)) | false ↦ λ e. hs ]
    refl

pub set-removed : (s n : ℕ) → Set s → Set (removed s n)
unfolding removed
set-removed s n hs =
    elim (leb n last_member) as (λ t. Set (if t then bit_and s (2 ^ members - 1 - 2 ^ n) else s))
    [ true ↦ omega (arith, and_le_l s (2 ^ members - 1 - 2 ^ n)) | false ↦ hs ]

pub set-union : (s t : ℕ) → Set s → Set t → Set (union s t)
unfolding union
set-union s t hs ht = or_lt members s t hs ht

-- two sets with the same members are the same word
pub same-members :
    (s t : ℕ) → Set s → Set t → ((q : ℕ) → q ≤ last_member → has s q ≡ has t q) → s ≡ t
same-members s t hs ht e = same_digits members s t hs ht (λ q h. e q (omega arith))

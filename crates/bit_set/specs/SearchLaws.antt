-- Laws of a search in a set: what lies between two numbers, and that the first number that is clear is the least such.
use Prim.Native.Nat.{ℕ, zero, suc, ◌+◌, ◌-◌, ◌/◌, ◌^◌, ◌≤◌, ◌<◌}
use Rattle.std.specs.Prelude.{◌≡◌, refl, Bool, true, false, not, ◌&&◌, ◌||◌, ◌↔◌, eqb, leb, ltb}
use Rattle.std.proofs.Common.{sym, ap, ap₂, ◌∙◌, arith, le-leb, ltb-true, ltb-false, lt-ltb, eqb-true}
use Rattle.std.proofs.Math.Bool.{and_comm}
use Rattle.std.specs.Int.Count.{count_trailing_zeros}
use Rattle.std.proofs.lemmas.Nat.{trailing_le, shr_le}
use Rattle.std.proofs.Math.Pow.{ones_lt, pow-lt}
use Rattle.std.proofs.lemmas.Bool.{lt-leb, eqb-false}
use Rattle.notation.specs.ChoiceLaws.{either, by_test}
use Rattle.notation.specs.Least.{Least}
use Rattle.notation.specs.LeastLaws.{least_here, least_later, least_one}
use Rattle.bit_set.specs.BitSet.{last_member, members, Set, has, inserted}
use Rattle.bit_set.specs.DigitLaws.{has_complement, has_ones, has_shifted, none-before_trailing, has_trailing}
use Rattle.bit_set.specs.BitSetLaws.{has_outside}
use Rattle.bit_set.specs.Collected.{less}
use Rattle.bit_set.specs.CollectedLaws.{set-collected, has-collected, collected-is, inserted-collected, set-less, has-less}
use Rattle.bit_set.specs.Search.{numbers_below, numbers_between, is_clear, first_clear_of, first_clear}

-- ---- The numbers between two

pub ones_below : (n : ℕ) → n ≤ last_member → 2 ^ n - 1 ≡ numbers_below n
unfolding numbers_below
ones_below n h =
    let below : n < members = omega arith in
    collected-is (2 ^ n - 1) _ (omega (arith, ones_lt n, pow-lt below)) (λ q m. has_ones n q)

pub every_member_below : (n : ℕ) → last_member < n → 2 ^ members - 1 ≡ numbers_below n
unfolding numbers_below
every_member_below n h =
    collected-is (2 ^ members - 1) _ (omega arith)
    (λ q m. has_ones members q ∙ lt-ltb q members (omega arith) ∙ sym (lt-ltb q n (omega arith)))

not-below : (n q : ℕ) → not (ltb q n) ≡ leb n q
not-below n q =
    elim (ltb q n) as (λ t. ltb q n ≡ t → not t ≡ leb n q)
    [ true ↦ λ e. sym (lt-leb n q (ltb-true q n e)) | false ↦ λ e. sym (le-leb n q (ltb-false q n e)) ]
    refl

below_or_last : (n q : ℕ) → (ltb q n || eqb q n) ≡ leb q n
below_or_last n q =
    elim (ltb q n) as (λ t. ltb q n ≡ t → (t || eqb q n) ≡ leb q n) [
      | true ↦ λ e. sym (le-leb q n (omega (arith, ltb-true q n e)))
      | false ↦ λ e. elim (eqb q n) as (λ t. eqb q n ≡ t → t ≡ leb q n) [
        | true ↦ λ same. sym (le-leb q n (omega (arith, eqb-true q n same)))
        | false ↦ λ other. sym (lt-leb q n (omega (arith, ltb-false q n e, eqb-false q n other)))
      ]
          refl
    ]
    refl

-- up to the last, without those below the first
pub between-less : (first last : ℕ) → less (inserted (numbers_below last) last) (numbers_below first) ≡ numbers_between first last
unfolding numbers_below numbers_between
between-less first last =
    collected-is _ _ (set-less _ _)
    (λ q h. has-less _ _ q h
    ∙ ap₂ (λ (a b : Bool). a && not b)
    (ap (λ (x : ℕ). has x q) (inserted-collected _ last) ∙ has-collected _ q h ∙ below_or_last last q)
    (has-collected _ q h)
    ∙ ap (λ (b : Bool). leb q last && b) (not-below first q)
    ∙ and_comm (leb q last) (leb first q))

pub has-between : (first last q : ℕ) → q ≤ last_member → has (numbers_between first last) q ≡ (leb first q && leb q last)
unfolding numbers_between
has-between first last = has-collected (λ q. leb first q && leb q last)

pub set-between : (first last : ℕ) → Set (numbers_between first last)
unfolding numbers_between
set-between first last = set-collected (λ q. leb first q && leb q last)

-- ---- The first number that is clear

clear_at_most : (more s n : ℕ) → first_clear_of more s n ≤ n + more
unfolding first_clear_of
clear_at_most zero s n = omega arith
clear_at_most (suc more) s n =
    either (λ r. r ≤ n + suc more) (is_clear s n) (omega arith) (omega (arith, clear_at_most more s (suc n)))

pub first_clear_at_most : (s r : ℕ) → r ≡ first_clear s 0 → r ≤ members
unfolding first_clear
first_clear_at_most s r e = omega (arith, e, clear_at_most members s 0)

module _ (s : ℕ) (is_set : Set s) where
  past_clear : (n : ℕ) → last_member < n → is_clear s n ≡ true
  past_clear n h = ap not (has_outside s n is_set h)

  first_clear_of_lem : (more n : ℕ) → last_member < n + more → Least (is_clear s) n (first_clear_of more s n)
  unfolding first_clear_of
  first_clear_of_lem zero n h = least_here (is_clear s) n (past_clear n (omega arith))
  first_clear_of_lem (suc more) n h =
      by_test (Least (is_clear s) n) (is_clear s n) (least_here (is_clear s) n)
      (λ e. least_later (is_clear s) n _ e (first_clear_of_lem more (suc n) (omega arith)))

  pub first_clear_least : (n : ℕ) → Least (is_clear s) n (first_clear s n)
  unfolding first_clear
  first_clear_least n = first_clear_of_lem (members - n) n (omega arith)

  pub first_clear_exactly : (n r : ℕ) → (first_clear s n ≡ r) ↔ Least (is_clear s) n r
  first_clear_exactly n r = (λ e. rw e at (first_clear_least n), least_one (is_clear s) n _ r (first_clear_least n))

  pub first_clear_past : (n : ℕ) → last_member < n → first_clear s n ≡ n
  first_clear_past n h = (first_clear_exactly n n).1 (least_here (is_clear s) n (past_clear n h))

  -- below its lowest 1 the complement has zeros alone: the members before the first number that is clear
  abbrev zeros : ℕ
  zeros = count_trailing_zeros members (2 ^ members - 1 - s)

  clear_there : (q : ℕ) → q < members → has (2 ^ members - 1 - s) q ≡ is_clear s q
  clear_there q h = has_complement members s q h is_set

  zeros_clear : Least (is_clear s) 0 zeros
  zeros_clear =
      record {
        from = omega arith;
        passes = elim (ltb zeros members) as (λ t. ltb zeros members ≡ t → is_clear s zeros ≡ true) [
          | true ↦ λ e. (let inside = ltb-true zeros members e in sym (clear_there zeros inside) ∙ has_trailing members _ inside)
          | false ↦ λ e. past_clear zeros (omega (arith, ltb-false zeros members e))
        ]
            refl;
        others = λ q a b. (let at_most = trailing_le members (2 ^ members - 1 - s) in
            sym (clear_there q (omega (arith, at_most))) ∙ none-before_trailing members _ q b);
      }

  pub first_clear-counted : first_clear s 0 ≡ zeros
  first_clear-counted = (first_clear_exactly 0 zeros).1 zeros_clear

-- from n on is from 0 on in the set shifted down by n
module _ (s n : ℕ) (is_set : Set s) where
  shifted_clear : (r : ℕ) → Least (is_clear (s / 2 ^ n)) 0 r → Least (is_clear s) n (n + r)
  shifted_clear r l =
      record {
        from = omega arith;
        passes = ap not (sym (has_shifted s n r)) ∙ l.passes;
        others = λ q a b. (let there : n + (q - n) ≡ q = omega arith in
            ap (is_clear s) (sym there) ∙ ap not (sym (has_shifted s n (q - n))) ∙ l.others (q - n) (omega arith) (omega arith));
      }

  pub first_clear_shifted : first_clear s n ≡ n + first_clear (s / 2 ^ n) 0
  first_clear_shifted =
      (first_clear_exactly s is_set n _).1
      (shifted_clear _ (first_clear_least (s / 2 ^ n) (omega (arith, shr_le s n)) 0))

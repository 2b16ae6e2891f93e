-- Tests that hold together: two at once, and one for every number below another.
use Prim.Native.Nat.{ℕ, zero, suc, ◌<◌}
use Rattle.std.specs.Prelude.{◌≡◌, Bool, not, ◌&&◌, ◌||◌, ◌⊎◌}
use Rattle.std.proofs.Math.Path.{refl, subst}
use Rattle.std.proofs.Common.{sym, inl, inr, arith}
use Rattle.std.proofs.Math.Bool.{true, false}
use Rattle.std.proofs.lemmas.Bool.{false≢true}
use Rattle.std.proofs.Math.Dec.{eqb}
use borrow.Author.Tests.{eqb-true, eqb-false}
use Rattle.notation.specs.ChoiceLaws.{both_true}
use Rattle.valid_states.specs.ValidStates.{all_below}

pub both_so : (a b : Bool) → a ≡ true → b ≡ true → (a && b) ≡ true
both_so true b p q = q
both_so false b p q = absurd (false≢true p)

pub one_of : (a b : Bool) → (a || b) ≡ true → (a ≡ true) ⊎ (b ≡ true)
one_of true b h = inl refl
one_of false b h = inr h

pub left_so : (a b : Bool) → a ≡ true → (a || b) ≡ true
left_so true b p = refl
left_so false b p = absurd (false≢true p)

pub right_so : (a b : Bool) → b ≡ true → (a || b) ≡ true
right_so true b p = refl
right_so false b p = p

-- a test that rules another out, or implies it
pub implied : (a b : Bool) → (not a || b) ≡ true → a ≡ true → b ≡ true
implied true b h p = h
implied false b h p = absurd (false≢true p)

pub implies_so : (a b : Bool) → (a ≡ true → b ≡ true) → (not a || b) ≡ true
implies_so true b h = h refl
implies_so false b h = refl

pub not_so : (a : Bool) → a ≡ false → not a ≡ true
not_so true p = sym p
not_so false p = refl

module _ (test : ℕ → Bool) where
  pub below_at : (n i : ℕ) → all_below n test ≡ true → i < n → test i ≡ true
  unfolding all_below
  below_at zero i e h = absurd (omega arith)
  below_at (suc n) i e h =
      let b = both_true (all_below n test) (test n) e in
      elim (eqb i n) as (λ t. eqb i n ≡ t → test i ≡ true) [
        | true ↦ λ same. subst (λ (m : ℕ). test m ≡ true) (sym (eqb-true i n same)) b.1
        | false ↦ λ other. below_at n i b.0 (omega (arith, eqb-false i n other))
      ]
      refl

  pub below_so : (n : ℕ) → ((i : ℕ) → i < n → test i ≡ true) → all_below n test ≡ true
  unfolding all_below
  below_so zero h = refl
  below_so (suc n) h = both_so (all_below n test) (test n) (below_so n (λ i l. h i (omega arith))) (h n (omega arith))

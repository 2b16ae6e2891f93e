-- Laws of words on lists: a loop that makes a step for each entry, one turn at a time. `whole` is what the whole list
-- makes; what is left of the list makes it from what the loop has so far.
use Rattle.std.specs.Prelude.{ℕ, zero, suc, ◌+◌, ◌-◌, ◌*◌, ◌/◌, ◌%◌, ◌^◌, ◌≤◌, ◌<◌, ◌≡◌, List, [], ◌∷◌, eqb, length, get_or, drop}
use Rattle.std.proofs.Math.Path.{refl, ap, sym}
use Rattle.std.proofs.Common.{◌∙◌, arith, add-one, drop_of_length-le, shr-shr, drop-cons}
use Rattle.std.proofs.Math.Nat.{div-eq_of_lt, div-eq_of_lt-le, pow-succ'}
use Rattle.std.proofs.Math.Pow.{pow_mono}
use Rattle.std.proofs.Math.Bool.{true, false}
use Rattle.std.specs.Prelude.{if◌then◌else◌}
use Rattle.sizes.specs.Sizes.{variables}
use Rattle.bit_set.specs.BitSet.{has}
use Rattle.notation.specs.Lists.{numbers_from}
use Rattle.branches.specs.Lists.{members_among, members_from, each}

-- ---- The numbers from i on that are below n

pub numbers_more : (i n : ℕ) → i < n → numbers_from i (n - i) ≡ i ∷ numbers_from (i + 1) (n - (i + 1))
unfolding numbers_from
numbers_more i n h =
    let e : n - i ≡ suc (n - (i + 1)) = omega arith in
    ap (numbers_from i) e ∙ ap (λ (m : ℕ). i ∷ numbers_from m (n - (i + 1))) (sym (add-one i))

pub numbers_none : (i n : ℕ) → n ≤ i → numbers_from i (n - i) ≡ []
unfolding numbers_from
numbers_none i n h =
    let e : n - i ≡ 0 = omega arith in
    ap (numbers_from i) e

pub members-some : (set v : ℕ) (vs : List ℕ) → has set v ≡ true → members_among set (v ∷ vs) ≡ v ∷ members_among set vs
unfolding members_among
members-some set v vs e = simp e

pub members-less : (set v : ℕ) (vs : List ℕ) → has set v ≡ false → members_among set (v ∷ vs) ≡ members_among set vs
unfolding members_among
members-less set v vs e = simp e

-- ---- A loop over the members of a set, which ends after the last one

none-among : (set v n : ℕ) → set / 2 ^ v ≡ 0 → members_among set (numbers_from v n) ≡ []
unfolding members_among numbers_from has
none-among set v zero e = refl
none-among set v (suc n) e =
    let less : has set v ≡ false = ap (λ (x : ℕ). eqb (x % 2) 1) e in
    let next : set / 2 ^ suc v ≡ 0 =
    ap (λ (k : ℕ). set / 2 ^ k) (sym (add-one v)) ∙ sym (shr-shr set v 1) ∙ ap (λ (x : ℕ). x / 2 ^ 1) e
    in
    members-less set v (numbers_from (suc v) n) less ∙ none-among set (suc v) n next

-- a set has no member from the number on that its digits end at
pub none-past : (set m : ℕ) → set < 2 ^ m → (v : ℕ) → m ≤ v → members_from set v ≡ []
none-past set m small v past = none-among set v (variables - v) (div-eq_of_lt (omega (arith, small, pow_mono past)))

-- the number before is a member: its last one
pub last-member : (set m n : ℕ) → set < 2 ^ m → 2 ^ m ≤ 2 * set + 1 → n ≡ m → 0 < n → has set (n - 1) ≡ true
unfolding has
last-member set m zero small large e some = absurd (omega arith)
last-member set m (suc j) small large e some =
    let double : 2 ^ m ≡ 2 * 2 ^ j = ap (λ (k : ℕ). 2 ^ k) (sym e) ∙ pow-succ' 2 j in
    let one : set / 2 ^ j ≡ 1 = div-eq_of_lt-le {k = 1} (2 ^ j) (omega (arith, double)) (omega (arith, double)) in
    let here : suc j - 1 ≡ j = omega arith in
    ap (has set) here ∙ ap (λ (x : ℕ). eqb (x % 2) 1) one

-- ---- A step for each entry

module _ {A : Type 0} (step : A → ℕ → A) where
  -- of a list, from entry i on
  module _ (ns : List ℕ) (i : ℕ) where
    pub each_entry :
        {a next whole : A} → each step a (drop i ns) ≡ whole → i < length ns → next ≡ step a (get_or ns i 0)
        → each step next (drop (i + 1) ns) ≡ whole
    unfolding each
    each_entry {a} {next} {whole} e h made =
        rw (add-one i, made) (sym (ap (each step a) (drop-cons ns i 0 h)) ∙ e)

    pub each-end : {a whole : A} → each step a (drop i ns) ≡ whole → length ns ≤ i → a ≡ whole
    unfolding each
    each-end {a} {whole} e h = sym (ap (each step a) (drop_of_length-le ns {i = i} h)) ∙ e

  -- of the numbers from i on that are below n
  module _ (i n : ℕ) where
    pub each_number :
        {a next whole : A} → each step a (numbers_from i (n - i)) ≡ whole → i < n → next ≡ step a i
        → each step next (numbers_from (i + 1) (n - (i + 1))) ≡ whole
    unfolding each
    each_number {a} {next} {whole} e h made = rw made (sym (ap (each step a) (numbers_more i n h)) ∙ e)

    pub each-number-end : {a whole : A} → each step a (numbers_from i (n - i)) ≡ whole → n ≤ i → a ≡ whole
    unfolding each
    each-number-end {a} {whole} e h = sym (ap (each step a) (numbers_none i n h)) ∙ e

    -- of those that are members of a set
    module _ (set : ℕ) where
      member_step :
          (a : A) (ns : List ℕ)
          → each step (if has set i then step a i else a) (members_among set ns) ≡ each step a (members_among set (i ∷ ns))
      unfolding each
      member_step a ns =
          elim (has set i) as
          (λ t. has set i ≡ t → each step (if t then step a i else a) (members_among set ns) ≡ each step a (members_among set (i ∷ ns))) [
            | true ↦ λ e. sym (ap (each step a) (members-some set i ns e))
            | false ↦ λ e. sym (ap (each step a) (members-less set i ns e))
          ]
          refl

      pub each_member :
          (a : A) {next whole : A} → each step a (members_among set (numbers_from i (n - i))) ≡ whole → i < n
          → next ≡ (if has set i then step a i else a)
          → each step next (members_among set (numbers_from (i + 1) (n - (i + 1)))) ≡ whole
      each_member a {next} {whole} e h made =
          rw made (member_step a _ ∙ sym (ap (λ (ns : List ℕ). each step a (members_among set ns)) (numbers_more i n h)) ∙ e)

      pub each_member_end :
          {a whole : A} → each step a (members_among set (numbers_from i (n - i))) ≡ whole
          → members_among set (numbers_from i (n - i)) ≡ [] → a ≡ whole
      unfolding each
      each_member_end {a} {whole} e none = sym (ap (each step a) none) ∙ e

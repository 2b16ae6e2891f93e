-- Laws of reading, a digit at a time.
use Rattle.std.specs.Prelude.{ℕ, suc, ◌+◌, ◌-◌, ◌*◌, ◌≤◌, ◌<◌, ◌≡◌, refl, List, [], ◌∷◌, true, false, ◌&&◌, leb, length, get_or, drop, Option, Some, None}
use Rattle.std.proofs.Common.{arith, drop_of_length-le, drop-cons, le-leb, lt-ltb, eq-eqb, ne_eqb}
use Rattle.std.proofs.Math.Bool.{and-true, and-false}
use Rattle.std.proofs.lemmas.Bool.{lt-leb}
use Rattle.std.specs.Prelude.{if◌then◌else◌}
use Rattle.notation.specs.Text.{byte}
use Rattle.sizes.specs.Sizes.{largest_number}
use Rattle.numbers.specs.Numbers.{is_digit, all_digits, value_from, needless_zero, is_number, number_of}

-- what the digits s say after digits of the value a
unfoldable pub read_from : ℕ → List ℕ → Option ℕ
read_from a s = if all_digits s && leb (value_from a s) largest_number then Some (value_from a s) else None

-- a value never falls as digits follow
pub value_grows : (a : ℕ) (s : List ℕ) → a ≤ value_from a s
unfolding value_from
value_grows a [] = omega arith
value_grows a (c ∷ cs) = omega (arith, value_grows (a * 10 + (c - byte "0")) cs)

digit-is : (c : ℕ) → byte "0" ≤ c → c ≤ byte "9" → is_digit c ≡ true
unfolding is_digit
digit-is c l u = simp (le-leb _ _ l, le-leb _ _ u)

module _ (s : List ℕ) (i a : ℕ) where
  pub read-end : length s ≤ i → a ≤ largest_number → read_from a (drop i s) ≡ Some a
  unfolding read_from all_digits value_from
  read-end h m = rw (drop_of_length-le s {i = i} h) (simp (le-leb _ _ m))

  pub read_low : i < length s → get_or s i 0 < byte "0" → read_from a (drop i s) ≡ None
  unfolding read_from all_digits is_digit
  read_low h l = rw (drop-cons s i 0 h) (simp (lt-leb _ _ l))

  pub read_high : i < length s → byte "9" < get_or s i 0 → read_from a (drop i s) ≡ None
  unfolding read_from all_digits is_digit
  read_high h u = rw (drop-cons s i 0 h) (simp (lt-leb _ _ u, and-false))

  pub read_more :
      i < length s → byte "0" ≤ get_or s i 0 → get_or s i 0 ≤ byte "9"
      → read_from a (drop i s) ≡ read_from (a * 10 + (get_or s i 0 - byte "0")) (drop (suc i) s)
  unfolding read_from all_digits value_from
  read_more h l u = rw (drop-cons s i 0 h) (simp (digit-is _ l u))

-- past the largest number no digit brings it back
pub read_large : (a : ℕ) (s : List ℕ) → largest_number < a → read_from a s ≡ None
unfolding read_from
read_large a s h = simp (lt-leb (value_from a s) largest_number (omega (arith, value_grows a s)), and-false)

-- ---- A field: nothing, a zero in front, or digits

pub number-empty : (s : List ℕ) → length s ≡ 0 → number_of s ≡ None
unfolding number_of is_number
number-empty [] h = refl
number-empty (c ∷ cs) h = absurd (omega arith)

pub number-zero : (s : List ℕ) → length s ≡ 1 → get_or s 0 0 ≡ byte "0" → number_of s ≡ Some 0
unfolding number_of is_number all_digits is_digit value_from needless_zero
number-zero [] h e = absurd (omega arith)
number-zero (c ∷ []) h e = rw e
number-zero (c ∷ (d ∷ cs)) h e = absurd (omega arith)

pub number_needless : (s : List ℕ) → 1 < length s → get_or s 0 0 ≡ byte "0" → number_of s ≡ None
unfolding number_of is_number needless_zero
number_needless [] h e = absurd (omega arith)
number_needless (c ∷ []) h e = absurd (omega arith)
number_needless (c ∷ (d ∷ cs)) h e = simp (eq-eqb c _ e, and-false)

pub needless_not : (s : List ℕ) → (get_or s 0 0 ≡ byte "0" → ⊥) → needless_zero s ≡ false
unfolding needless_zero
needless_not [] e = refl
needless_not (c ∷ []) e = refl
needless_not (c ∷ (d ∷ cs)) e = ne_eqb c (byte "0") e

pub number_digits : (s : List ℕ) → 0 < length s → (get_or s 0 0 ≡ byte "0" → ⊥) → number_of s ≡ read_from 0 s
unfolding number_of is_number read_from
number_digits s h e = simp (lt-ltb _ _ h, needless_not s e, and-true)

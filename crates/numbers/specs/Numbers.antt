-- Numbers, as a field has them and as they are printed.
use Rattle.std.specs.Prelude.{ℕ, zero, suc, ◌+◌, ◌-◌, ◌*◌, ◌/◌, ◌%◌, List, [], ◌∷◌, ◌++◌, Bool, true, false, not, ◌&&◌, eqb, leb, ltb, length, Option, Some, None}
use Rattle.std.specs.Prelude.{if◌then◌else◌}
use Rattle.notation.specs.Text.{byte}
use Rattle.sizes.specs.Sizes.{largest_number}

-- ---- What a field says: rule 2.3

unfoldable pub is_digit : ℕ → Bool
is_digit c = leb (byte "0") c && leb c (byte "9")

unfoldable pub all_digits : List ℕ → Bool
all_digits [] = true
all_digits (c ∷ cs) = is_digit c && all_digits cs

-- the value of the digits cs after digits of the value a
unfoldable pub value_from : ℕ → List ℕ → ℕ
value_from a [] = a
value_from a (c ∷ cs) = value_from (a * 10 + (c - byte "0")) cs

-- a zero with a digit behind it
unfoldable pub needless_zero : List ℕ → Bool
needless_zero [] = false
needless_zero (c ∷ []) = false
needless_zero (c ∷ (d ∷ cs)) = eqb c (byte "0")

unfoldable pub is_number : List ℕ → Bool
is_number s = ltb 0 (length s) && all_digits s && leb (value_from 0 s) largest_number && not (needless_zero s)

unfoldable pub number_of : List ℕ → Option ℕ
number_of s = if is_number s then Some (value_from 0 s) else None

-- ---- How a number is printed: rule 2.5

abbrev pub digit : ℕ → ℕ
digit d = byte "0" + d

-- n in so many digits at most: its last digit stands behind those of n / 10
unfoldable pub written : ℕ → ℕ → List ℕ
written zero n = []
written (suc digits) n = if ltb n 10 then digit n ∷ [] else written digits (n / 10) ++ (digit (n % 10) ∷ [])

-- ten digits hold every number of a sheet
unfoldable pub decimal : ℕ → List ℕ
decimal n = written 10 n

-- Laws of printed numbers: one digit, or a number's last digit behind the rest.
use Rattle.std.specs.Prelude.{ℕ, zero, suc, ◌/◌, ◌%◌, ◌^◌, ◌≤◌, ◌<◌, ◌≡◌, refl, List, [], ◌∷◌, ◌++◌, true, false, ltb, length}
use Rattle.std.proofs.Common.{zero-le, ap, sym, ◌∙◌, arith, pow-suc, mod-eq_of_lt, length-append, lt-ltb, le-ltb}
use Rattle.std.specs.Prelude.{if◌then◌else◌}
use Rattle.numbers.specs.Numbers.{digit, written, decimal}

-- more digits than are needed change nothing
enough : (k n : ℕ) → n < 10 ^ suc k → written (suc (suc k)) n ≡ written (suc k) n
unfolding written
enough zero n h = simp (lt-ltb n 10 (omega (arith, h)))
enough (suc k) n h =
    elim (ltb n 10) as
    (λ t. (if t then digit n ∷ [] else written (suc (suc k)) (n / 10) ++ (digit (n % 10) ∷ []))
    ≡ (if t then digit n ∷ [] else written (suc k) (n / 10) ++ (digit (n % 10) ∷ [])))
    [ true ↦ refl | false ↦ rw (enough k (n / 10) (omega (arith, pow-suc 10 (suc k)))) ]

pub written-digit : (k n : ℕ) → n < 10 → written (suc k) n ≡ digit n ∷ []
unfolding written
written-digit k n h = simp (lt-ltb n 10 h)

pub written_more : (k n : ℕ) → 10 ≤ n → written (suc k) n ≡ written k (n / 10) ++ (digit (n % 10) ∷ [])
unfolding written
written_more k n h = simp (le-ltb n 10 h)

pub decimal_digit : (n : ℕ) → n < 10 → decimal n ≡ digit n ∷ []
unfolding decimal
decimal_digit n h = written-digit 9 n h

-- the code's one digit, n % 10, of a number below ten
pub decimal-last : (n : ℕ) → n < 10 → ◌≡◌ {A = List ℕ} (digit (n % 10) ∷ []) (decimal n)
decimal-last n h = rw (mod-eq_of_lt h, decimal_digit n h)

pub decimal_more : (n : ℕ) → 10 ≤ n → n < 10 ^ 10 → decimal n ≡ decimal (n / 10) ++ (digit (n % 10) ∷ [])
unfolding decimal
decimal_more n h u =
    written_more 9 n h
    ∙ ap (λ (l : List ℕ). l ++ (digit (n % 10) ∷ [])) (sym (enough 8 (n / 10) (omega (arith, u))))

-- at least one digit and at most ten
written-some : (k n : ℕ) → 0 < length (written (suc k) n)
unfolding written
written-some k n =
    elim (ltb n 10) as (λ t. 0 < length (if t then digit n ∷ [] else written k (n / 10) ++ (digit (n % 10) ∷ [])))
    [ true ↦ omega arith | false ↦ omega (arith, length-append (written k (n / 10)) (digit (n % 10) ∷ [])) ]

written_le : (k n : ℕ) → length (written k n) ≤ k
unfolding written
written_le zero n = zero-le
written_le (suc k) n =
    elim (ltb n 10) as (λ t. length (if t then digit n ∷ [] else written k (n / 10) ++ (digit (n % 10) ∷ [])) ≤ suc k) [
      | true ↦ omega arith
      | false ↦ omega (arith, written_le k (n / 10), length-append (written k (n / 10)) (digit (n % 10) ∷ []))
    ]

pub decimal-some : (n : ℕ) → 0 < length (decimal n)
unfolding decimal
decimal-some n = written-some 9 n

pub decimal_le : (n : ℕ) → length (decimal n) ≤ 10
unfolding decimal
decimal_le n = written_le 10 n

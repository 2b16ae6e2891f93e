-- Binary digits of a word: what `has` reads of a sum of powers, a mask, a complement and a shift, and what stands below and
-- at a count of zeros.
use Rattle.std.specs.Prelude.{◌≡◌, refl, true, false, not, ◌&&◌, ◌||◌, ℕ, zero, suc, ◌+◌, ◌-◌, ◌*◌, ◌/◌, ◌%◌, ◌^◌, ◌<◌, eqb, ltb}
use Rattle.std.proofs.Common.{sym, ap, ap₂, ◌∙◌, true≢false, mod-lt, add-zero, pow-suc, one-mul, div-one, zero-mul, arith, one-add, pow_pos, shr-shr, ne_eqb, ltb-true, ltb-false}
use Rattle.std.proofs.lemmas.Bool.{false≢true}
use Rattle.std.proofs.Math.Nat.{zero-div}
use Rattle.std.proofs.Math.Dec.{eqb-zero-suc, eqb-suc-zero, eqb-suc-suc}
use Rattle.std.specs.Int.Bits.{bit_and, bit_or, and_zero_r}
use Rattle.std.proofs.lemmas.Nat.{or_shr, or_mod, and_shr, and_mod, and_block, and_mask}
use Rattle.std.specs.Int.Count.{count_trailing_zeros, under}
use Rattle.std.proofs.Math.Pow.{ones_lt, split}
use Rattle.bit_set.specs.BitSet.{has}

-- a digit is 0 or 1: the rows of each table are computed
or_row : (x y : ℕ) → x < 2 → y < 2 → eqb (bit_or x y) 1 ≡ (eqb x 1 || eqb y 1)
or_row zero zero hx hy = refl
or_row zero (suc zero) hx hy = refl
or_row zero (suc (suc y)) hx hy = absurd (omega arith)
or_row (suc zero) zero hx hy = refl
or_row (suc zero) (suc zero) hx hy = refl
or_row (suc zero) (suc (suc y)) hx hy = absurd (omega arith)
or_row (suc (suc x)) y hx hy = absurd (omega arith)

and-row : (x y : ℕ) → x < 2 → y < 2 → eqb (bit_and x y) 1 ≡ (eqb x 1 && eqb y 1)
and-row zero zero hx hy = refl
and-row zero (suc zero) hx hy = refl
and-row zero (suc (suc y)) hx hy = absurd (omega arith)
and-row (suc zero) zero hx hy = refl
and-row (suc zero) (suc zero) hx hy = refl
and-row (suc zero) (suc (suc y)) hx hy = absurd (omega arith)
and-row (suc (suc x)) y hx hy = absurd (omega arith)

not-row : (x : ℕ) → x < 2 → eqb (1 - x) 1 ≡ not (eqb x 1)
not-row zero hx = refl
not-row (suc zero) hx = refl
not-row (suc (suc x)) hx = absurd (omega arith)

same_row : (x y : ℕ) → x < 2 → y < 2 → eqb x 1 ≡ eqb y 1 → x ≡ y
same_row zero zero hx hy e = refl
same_row zero (suc zero) hx hy e = absurd (false≢true e)
same_row zero (suc (suc y)) hx hy e = absurd (omega arith)
same_row (suc zero) zero hx hy e = absurd (true≢false e)
same_row (suc zero) (suc zero) hx hy e = refl
same_row (suc zero) (suc (suc y)) hx hy e = absurd (omega arith)
same_row (suc (suc x)) y hx hy e = absurd (omega arith)

-- `s & (1 << n)` is the digit at n, in its place
and_bit : (s n : ℕ) → bit_and s (2 ^ n) ≡ (s / 2 ^ n % 2) * 2 ^ n
and_bit s n =
    ap₂ bit_and (sym (split s n)) (sym (add-zero (1 * 2 ^ n) ∙ one-mul (2 ^ n)))
    ∙ and_block n (s / 2 ^ n) 1 (s % 2 ^ n) zero (mod-lt s (pow_pos n)) (pow_pos n)
    ∙ ap₂ (λ (x y : ℕ). x * 2 ^ n + y) (and_mask (s / 2 ^ n) 1) (and_zero_r (s % 2 ^ n))
    ∙ add-zero ((s / 2 ^ n % 2) * 2 ^ n)

-- the test `s & (1 << n) != 0` is membership
pub has_mask : (s n : ℕ) → not (eqb (bit_and s (2 ^ n)) 0) ≡ has s n
unfolding has
has_mask s n = ap (λ (x : ℕ). not (eqb x 0)) (and_bit s n) ∙ digit (s / 2 ^ n % 2) (omega arith)
  where
    digit : (d : ℕ) → d < 2 → not (eqb (d * 2 ^ n) 0) ≡ eqb d 1
    digit zero h = ap (λ (x : ℕ). not (eqb x 0)) (zero-mul (2 ^ n))
    digit (suc zero) h = ap not (ne_eqb (1 * 2 ^ n) 0 (λ e. omega (arith, pow_pos n, e)))
    digit (suc (suc d)) h = absurd (omega arith)

pub has_or : (s t q : ℕ) → has (bit_or s t) q ≡ (has s q || has t q)
unfolding has
has_or s t q =
    ap (λ (x : ℕ). eqb (x % 2) 1) (or_shr s t q)
    ∙ ap (λ (x : ℕ). eqb x 1) (or_mod (s / 2 ^ q) (t / 2 ^ q) 1)
    ∙ or_row (s / 2 ^ q % 2) (t / 2 ^ q % 2) (omega arith) (omega arith)

pub has-and : (s t q : ℕ) → has (bit_and s t) q ≡ (has s q && has t q)
unfolding has
has-and s t q =
    ap (λ (x : ℕ). eqb (x % 2) 1) (and_shr s t q)
    ∙ ap (λ (x : ℕ). eqb x 1) (and_mod (s / 2 ^ q) (t / 2 ^ q) 1)
    ∙ and-row (s / 2 ^ q % 2) (t / 2 ^ q % 2) (omega arith) (omega arith)

has_first : (s : ℕ) → has s zero ≡ eqb (s % 2) 1
unfolding has
has_first s = ap (λ (x : ℕ). eqb (x % 2) 1) (div-one s)

has-next : (s q : ℕ) → has s (suc q) ≡ has (s / 2) q
unfolding has
has-next s q = ap (λ (x : ℕ). eqb (x % 2) 1) (ap (λ (x : ℕ). s / 2 ^ x) (sym (one-add q)) ∙ sym (shr-shr s 1 q))

pub has-zero : (q : ℕ) → has zero q ≡ false
unfolding has
has-zero q = ap (λ (x : ℕ). eqb (x % 2) 1) (zero-div (2 ^ q))

pub has_pow : (n q : ℕ) → has (2 ^ n) q ≡ eqb q n
has_pow zero zero = has_first 1 ∙ refl
has_pow (suc n) zero =
    let e : 2 ^ suc n % 2 ≡ 0 = omega (arith, pow-suc 2 n) in
    has_first (2 ^ suc n) ∙ ap (λ (x : ℕ). eqb x 1) e ∙ sym (eqb-zero-suc n)
has_pow zero (suc q) = has-next 1 q ∙ has-zero q ∙ sym (eqb-suc-zero q)
has_pow (suc n) (suc q) =
    let e : 2 ^ suc n / 2 ≡ 2 ^ n = omega (arith, pow-suc 2 n) in
    has-next (2 ^ suc n) q ∙ ap (λ (x : ℕ). has x q) e ∙ has_pow n q ∙ sym (eqb-suc-suc q n)

-- past a word's last digit there is none
pub has_above : (k s q : ℕ) → s < 2 ^ k → has s (k + q) ≡ false
has_above zero s q h =
    let e : s ≡ 0 = omega arith in
    rw e (has-zero (zero + q))
has_above (suc k) s q h =
    let e : suc k + q ≡ suc (k + q) = omega arith in
    rw e (has-next s (k + q) ∙ has_above k (s / 2) q (omega (arith, pow-suc 2 k)))

pub has_complement : (k s q : ℕ) → q < k → s < 2 ^ k → has (2 ^ k - 1 - s) q ≡ not (has s q)
has_complement zero s q h hs = absurd (omega arith)
has_complement (suc k) s zero h hs =
    let e : (2 ^ suc k - 1 - s) % 2 ≡ 1 - s % 2 = omega (arith, pow-suc 2 k) in
    has_first (2 ^ suc k - 1 - s) ∙ ap (λ (x : ℕ). eqb x 1) e ∙ not-row (s % 2) (omega arith) ∙ ap not (sym (has_first s))
has_complement (suc k) s (suc q) h hs =
    let e : (2 ^ suc k - 1 - s) / 2 ≡ 2 ^ k - 1 - s / 2 = omega (arith, pow-suc 2 k) in
    has-next (2 ^ suc k - 1 - s) q
    ∙ ap (λ (x : ℕ). has x q) e
    ∙ has_complement k (s / 2) q (omega arith) (omega (arith, pow-suc 2 k))
    ∙ ap not (sym (has-next s q))

-- two words with the same digits are the same word
pub same_digits :
    (k s t : ℕ) → s < 2 ^ k → t < 2 ^ k → ((q : ℕ) → q < k → has s q ≡ has t q) → s ≡ t
same_digits zero s t hs ht e = omega arith
same_digits (suc k) s t hs ht e =
    let low : s % 2 ≡ t % 2 =
    same_row (s % 2) (t % 2) (omega arith) (omega arith)
    (sym (has_first s) ∙ e zero (omega arith) ∙ has_first t)
    in
    let high : s / 2 ≡ t / 2 =
    same_digits k (s / 2) (t / 2) (omega (arith, pow-suc 2 k)) (omega (arith, pow-suc 2 k))
    (λ q h. sym (has-next s q) ∙ e (suc q) (omega arith) ∙ has-next t q)
    in
    omega arith

-- the word of n digits that are all 1
pub has_ones : (n q : ℕ) → has (2 ^ n - 1) q ≡ ltb q n
has_ones n q =
    elim (ltb q n) as (λ t. ltb q n ≡ t → has (2 ^ n - 1) q ≡ t) [
      | true ↦ λ e. (let all : 2 ^ n - 1 - 0 ≡ 2 ^ n - 1 = omega arith in
          ap (λ (x : ℕ). has x q) (sym all) ∙ has_complement n zero q (ltb-true q n e) (pow_pos n) ∙ ap not (has-zero q))
      | false ↦ λ e. (let h = ltb-false q n e in
          let past : n + (q - n) ≡ q = omega arith in
          ap (has (2 ^ n - 1)) (sym past) ∙ has_above n (2 ^ n - 1) (q - n) (ones_lt n))
    ]
    refl

-- a word shifted down by n begins with the digit n
pub has_shifted : (s n q : ℕ) → has (s / 2 ^ n) q ≡ has s (n + q)
unfolding has
has_shifted s n q = ap (λ (x : ℕ). eqb (x % 2) 1) (shr-shr s n q)

-- the digits below the count of zeros are 0
pub none-before_trailing : (k s q : ℕ) → q < count_trailing_zeros k s → has s q ≡ false
unfolding count_trailing_zeros
none-before_trailing zero s q h = absurd (omega arith)
none-before_trailing (suc k) s q h = by_first (s % 2) refl q (none-before_trailing k (s / 2)) h
  where
    by_first :
        (d : ℕ) → s % 2 ≡ d → (q : ℕ) → ((q : ℕ) → q < count_trailing_zeros k (s / 2) → has (s / 2) q ≡ false)
        → q < under d (count_trailing_zeros k (s / 2)) → has s q ≡ false
    by_first zero e zero later h = has_first s ∙ ap (λ (x : ℕ). eqb x 1) e
    by_first zero e (suc q) later h = has-next s q ∙ later q (omega arith)
    by_first (suc d) e q later h = absurd (omega arith)

-- and the one at the count is 1, unless all that are counted are 0
pub has_trailing : (k s : ℕ) → count_trailing_zeros k s < k → has s (count_trailing_zeros k s) ≡ true
unfolding count_trailing_zeros
has_trailing zero s h = absurd (omega arith)
has_trailing (suc k) s h = by_first (s % 2) refl (omega arith) (has_trailing k (s / 2)) h
  where
    by_first :
        (d : ℕ) → s % 2 ≡ d → d < 2 → (count_trailing_zeros k (s / 2) < k → has (s / 2) (count_trailing_zeros k (s / 2)) ≡ true)
        → under d (count_trailing_zeros k (s / 2)) < suc k → has s (under d (count_trailing_zeros k (s / 2))) ≡ true
    by_first zero e b later h = has-next s (count_trailing_zeros k (s / 2)) ∙ later (omega arith)
    by_first (suc zero) e b later h = has_first s ∙ ap (λ (x : ℕ). eqb x 1) e
    by_first (suc (suc d)) e b later h = absurd (omega arith)

-- What is printed reads back, and what reads was printed so, rules 2.3 and 2.5: no number has two spellings.
use Rattle.std.specs.Prelude.{ℕ, zero, suc, ◌+◌, ◌-◌, ◌*◌, ◌/◌, ◌%◌, ◌^◌, ◌≤◌, ◌<◌, ◌≡◌, refl, List, [], ◌∷◌, ◌++◌, true, false, not, ◌&&◌, leb, ltb, length, get_or, Some, None}
use Rattle.std.proofs.Common.{ap, sym, ◌∙◌, append_assoc, append-nil, arith, pow-suc, length-append, le-leb, lt-ltb, leb-true, ltb-true, ltb-false}
use Rattle.std.proofs.Math.Arith.{digits_div, digits_mod}
use Rattle.std.proofs.Math.ListN.{get_or-append}
use Rattle.std.proofs.lemmas.Bool.{eqb-false, not-true}
use Rattle.std.specs.Prelude.{if◌then◌else◌}
use Rattle.notation.specs.ChoiceLaws.{both_true}
use Rattle.notation.specs.Text.{byte}
use Rattle.sizes.specs.Sizes.{largest_number}
use Rattle.numbers.specs.Numbers.{is_digit, all_digits, value_from, needless_zero, is_number, number_of, digit, written, decimal}
use Rattle.numbers.specs.ReadLaws.{value_grows, needless_not}
use Rattle.numbers.specs.DecimalLaws.{written-digit, written_more, decimal_digit, decimal_more}

-- ---- Digits behind digits

value_append : (a : ℕ) (s t : List ℕ) → value_from a (s ++ t) ≡ value_from (value_from a s) t
unfolding value_from
value_append a [] t = refl
value_append a (c ∷ cs) t = value_append (a * 10 + (c - byte "0")) cs t

digits_append : (s t : List ℕ) → all_digits s ≡ true → all_digits t ≡ true → all_digits (s ++ t) ≡ true
unfolding all_digits
digits_append [] t hs ht = ht
digits_append (c ∷ cs) t hs ht =
    let b = both_true (is_digit c) (all_digits cs) hs in
    simp (b.0, digits_append cs t b.1 ht)

digit-one : (d : ℕ) → d < 10 → all_digits (digit d ∷ []) ≡ true
unfolding all_digits is_digit
digit-one d h =
    let low : byte "0" ≤ digit d = omega arith in
    let high : digit d ≤ byte "9" = omega arith in
    simp (le-leb _ _ low, le-leb _ _ high)

value-one : (a d : ℕ) → value_from a (digit d ∷ []) ≡ a * 10 + d
unfolding value_from
value-one a d = omega arith

-- ---- What is printed reads back

-- a number's digits: all are digits, their value is the number, and none is needless
record Printed (s : List ℕ) (n : ℕ) : Type 0 where
  digits : all_digits s ≡ true
  value : value_from 0 s ≡ n
  some : 0 < length s
  first : 0 < n → get_or s 0 0 ≡ byte "0" → ⊥

printed-one : (n : ℕ) → n < 10 → Printed (digit n ∷ []) n
printed-one n h =
    record {
      digits = digit-one n h;
      value = value-one 0 n ∙ omega arith;
      some = omega arith;
      first = λ p e. omega arith;
    }

printed_more : (s : List ℕ) (n : ℕ) → 10 ≤ n → Printed s (n / 10) → Printed (s ++ (digit (n % 10) ∷ [])) n
printed_more s n h p =
    let last : List ℕ = digit (n % 10) ∷ [] in
    record {
      digits = digits_append s last p.digits (digit-one (n % 10) (omega arith));
      value = value_append 0 s last ∙ rw p.value (value-one (n / 10) (n % 10) ∙ omega arith);
      some = omega (arith, length-append s last, p.some);
      first = λ q e. p.first (omega arith) (sym (get_or-append s last 0 0 p.some) ∙ e);
    }

printed : (k n : ℕ) → n < 10 ^ suc k → Printed (written (suc k) n) n
printed zero n h = rw (written-digit zero n (omega arith)) (printed-one n (omega arith))
printed (suc k) n h =
    elim (ltb n 10) as (λ t. ltb n 10 ≡ t → Printed (written (suc (suc k)) n) n) [
      | true ↦ λ e. (let l = ltb-true n 10 e in rw (written-digit (suc k) n l) (printed-one n l))
      | false ↦ λ e. (let l = ltb-false n 10 e in rw (written_more (suc k) n l) (printed_more _ n l (printed k (n / 10) (omega (arith, pow-suc 10 (suc k))))))
    ]
    refl

-- what is printed reads back
number-printed : (s : List ℕ) (n : ℕ) → Printed s n → n ≤ largest_number → needless_zero s ≡ false → number_of s ≡ Some n
unfolding number_of is_number
number-printed s n p m z = simp (p.digits, p.value, lt-ltb _ _ p.some, le-leb _ _ m, z)

needless_one : (c : ℕ) → needless_zero (c ∷ []) ≡ false
unfolding needless_zero
needless_one c = refl

pub printed-is-read : (n : ℕ) → n ≤ largest_number → number_of (decimal n) ≡ Some n
unfolding decimal
printed-is-read n h =
    let p : Printed (written 10 n) n = printed 9 n (omega arith) in
    elim (ltb 0 n) as (λ t. ltb 0 n ≡ t → number_of (written 10 n) ≡ Some n) [
      | true ↦ λ e. number-printed _ n p h (needless_not _ (p.first (ltb-true 0 n e)))
      | false ↦ λ e. number-printed _ n p h (rw (written-digit 9 n (omega (arith, ltb-false 0 n e))) (needless_one (digit n)))
    ]
    refl

-- ---- What reads was printed so

never : (n : ℕ) → None ≡ Some n → ⊥
never n e = let z : ◌≡◌ {A = ℕ} 0 1 = cc in omega arith

-- a field that reads as n: what its digits are
record Reads (s : List ℕ) (n : ℕ) : Type 0 where
  digits : all_digits s ≡ true
  value : value_from 0 s ≡ n
  some : 0 < length s
  fits : n ≤ largest_number
  needed : needless_zero s ≡ false

reads : (s : List ℕ) (n : ℕ) → number_of s ≡ Some n → Reads s n
unfolding number_of is_number
reads s n h =
    (elim (is_number s) as (λ t. is_number s ≡ t → (if t then Some (value_from 0 s) else None) ≡ Some n → Reads s n) [
      | true ↦ λ e o. (let v : value_from 0 s ≡ n = cc in
          let b = both_true _ (not (needless_zero s)) e in
          let f = both_true _ (leb (value_from 0 s) largest_number) b.0 in
          let d = both_true (ltb 0 (length s)) (all_digits s) f.0 in
          record {
            digits = d.1;
            value = v;
            some = ltb-true 0 (length s) d.0;
            fits = omega (arith, leb-true (value_from 0 s) largest_number f.1);
            needed = not-true (needless_zero s) b.1;
          })
      | false ↦ λ e o. absurd (never n o)
    ])
    refl h

-- the first of some digits
record First (c : ℕ) (cs : List ℕ) : Type 0 where
  low : byte "0" ≤ c
  high : c ≤ byte "9"
  rest : all_digits cs ≡ true

digits-first : (c : ℕ) (cs : List ℕ) → all_digits (c ∷ cs) ≡ true → First c cs
unfolding all_digits is_digit
digits-first c cs h =
    let b = both_true (leb (byte "0") c && leb c (byte "9")) (all_digits cs) h in
    let e = both_true (leb (byte "0") c) (leb c (byte "9")) b.0 in
    record { low = leb-true (byte "0") c e.0; high = leb-true c (byte "9") e.1; rest = b.1 }

value-first : (c : ℕ) (cs : List ℕ) → value_from (c - byte "0") cs ≡ value_from 0 (c ∷ cs)
unfolding value_from
value-first c cs = let e : c - byte "0" ≡ 0 * 10 + (c - byte "0") = omega arith in ap (λ (a : ℕ). value_from a cs) e

needed_first : (c d : ℕ) (cs : List ℕ) → needless_zero (c ∷ (d ∷ cs)) ≡ false → c ≡ byte "0" → ⊥
unfolding needless_zero
needed_first c d cs h = eqb-false c (byte "0") h

-- digits behind a number above 0 are printed behind it
value-printed :
    (s : List ℕ) (a : ℕ) → 0 < a → value_from a s ≤ largest_number → all_digits s ≡ true
    → decimal (value_from a s) ≡ decimal a ++ s
unfolding value_from
value-printed [] a p m h = sym (append-nil (decimal a))
value-printed (c ∷ cs) a p m h =
    let g = digits-first c cs h in
    let d : ℕ = c - byte "0" in
    let l : d < 10 = omega (arith, g.high) in
    let k : digit d ≡ c = omega (arith, g.low) in
    let u : a * 10 + d ≤ largest_number = omega (arith, value_grows (a * 10 + d) cs) in
    let shown : decimal (a * 10 + d) ≡ decimal a ++ (c ∷ []) =
    decimal_more (a * 10 + d) (omega arith) (omega arith) ∙ rw (digits_div a l, digits_mod a l, k)
    in
    value-printed cs (a * 10 + d) (omega arith) m g.rest
    ∙ ap (λ (x : List ℕ). x ++ cs) shown
    ∙ append_assoc (decimal a) (c ∷ []) cs

-- ---- A first digit that is not needless

read_one : (c n : ℕ) → Reads (c ∷ []) n → ◌≡◌ {A = List ℕ} (c ∷ []) (decimal n)
unfolding value_from
read_one c n r =
    let g = digits-first c [] r.digits in
    let k : digit n ≡ c = omega (arith, g.low, r.value) in
    sym (decimal_digit n (omega (arith, g.high, r.value)) ∙ ap (λ (x : ℕ). x ∷ []) k)

read_many : (c d : ℕ) (cs : List ℕ) (n : ℕ) → Reads (c ∷ (d ∷ cs)) n → ◌≡◌ {A = List ℕ} (c ∷ (d ∷ cs)) (decimal n)
read_many c d cs n r =
    let g = digits-first c (d ∷ cs) r.digits in
    let v = value-first c (d ∷ cs) ∙ r.value in
    let p : 0 < c - byte "0" = omega (arith, g.low, needed_first c d cs r.needed) in
    let k : digit (c - byte "0") ≡ c = omega (arith, g.low) in
    sym
    (ap decimal (sym v)
    ∙ value-printed (d ∷ cs) (c - byte "0") p (omega (arith, v, r.fits)) g.rest
    ∙ ap (λ (x : List ℕ). x ++ (d ∷ cs)) (decimal_digit (c - byte "0") (omega (arith, g.high)) ∙ ap (λ (x : ℕ). x ∷ []) k))

-- what reads as n is n as it is printed
pub read-is-printed : (s : List ℕ) (n : ℕ) → number_of s ≡ Some n → s ≡ decimal n
read-is-printed [] n h = absurd (let r = reads [] n h in omega (arith, r.some))
read-is-printed (c ∷ []) n h = read_one c n (reads (c ∷ []) n h)
read-is-printed (c ∷ (d ∷ cs)) n h = read_many c d cs n (reads (c ∷ (d ∷ cs)) n h)

-- so no number has two spellings
pub one_spelling : (s t : List ℕ) (n : ℕ) → number_of s ≡ Some n → number_of t ≡ Some n → s ≡ t
one_spelling s t n hs ht = read-is-printed s n hs ∙ sym (read-is-printed t n ht)

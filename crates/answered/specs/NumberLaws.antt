-- Which refusals are ever given, and that a host can tell count, line and refusal by its number: rules 4.8, 23.3.
use Rattle.std.specs.Prelude.{ℕ, zero, suc, ◌+◌, ◌*◌, ◌≤◌, ◌≡◌, refl, ◌≢◌, ℤ, pos, negsuc, neg_ℤ, Ok, Err}
use Rattle.std.proofs.Common.{sym, ap, ◌∙◌, arith}
use Rattle.refusals.specs.declared.Refusal.{Refusal}
use Rattle.refusals.specs.declared.Refusal.TheVariants.{Full, Unreachable, Room}
use Rattle.refusals.specs.Refusals.{number_of as refusal_number}
use Rattle.refusals.specs.RefusalsLaws.{numbered, number-tells}
use Rattle.answered.specs.Answered.{Answered, refused, number_of}

-- ---- The parts of a refusal

abbrev pub line_in : Answered → ℕ
line_in (Ok count) = 0
line_in (Err told) = told.line

-- the number of the refusal, 0 for none
abbrev pub refusal_in : Answered → ℕ
refusal_in (Ok count) = 0
refusal_in (Err told) = refusal_number told.refusal

pub told_alike : {l m : ℕ} {r q : Refusal} → refused {A = ℕ} l r ≡ refused m q → (l ≡ m) × (r ≡ q)
told_alike {r = r} {q = q} e = (ap line_in e, number-tells r q (ap refusal_in e))

-- ---- Refusals that are given

-- what anything can be given: at most 9, and by rule 4.8 not 8
abbrev pub Told : Refusal → Type 0
Told refusal = (refusal_number refusal ≤ refusal_number Room) × (refusal ≢ Unreachable)

pub small_told : {refusal : Refusal} → refusal_number refusal ≤ refusal_number Full → Told refusal
small_told h = (omega arith, λ same. omega (arith, ap refusal_number same))

-- an answer that is refused is given such a number, and not 0
abbrev pub TellsApart : Answered → Type 0
TellsApart (Ok count) = Unit {0}
TellsApart (Err told) = (1 ≤ refusal_number told.refusal) × Told told.refusal

pub tells_apart : (line : ℕ) (refusal : Refusal) → refusal ≢ Unreachable → TellsApart (refused line refusal)
tells_apart line refusal given = ((numbered refusal).0, ((numbered refusal).1, given))

pub roomless : TellsApart (refused 0 Room)
roomless = (omega arith, (omega arith, λ same. cc))

-- ---- The number for a host

abbrev size_of : ℤ → ℕ
size_of (pos n) = n
size_of (negsuc n) = suc n

abbrev sign_of : ℤ → ℕ
sign_of (pos n) = 0
sign_of (negsuc n) = 1

size_negated : (n : ℕ) → size_of (neg_ℤ (pos n)) ≡ n
size_negated zero = refl
size_negated (suc n) = refl

sign_negated : (n : ℕ) → 1 ≤ n → sign_of (neg_ℤ (pos n)) ≡ 1
sign_negated zero some = absurd (omega arith)
sign_negated (suc n) some = refl

told-both : {l m : ℕ} {r q : Refusal} → l ≡ m → r ≡ q → refused {A = ℕ} l r ≡ refused m q
told-both {l} {m} {r} {q} same also = ap (λ line. refused line r) same ∙ ap (λ refusal. refused m refusal) also

-- rule 23.3: answers of one number are one answer
pub number_tells : (a b : Answered) → TellsApart a → TellsApart b → number_of a ≡ number_of b → a ≡ b
number_tells (Ok m) (Ok n) p q e = ap Ok (ap size_of e)
number_tells (Ok m) (Err b) p q e =
    let sign : ◌≡◌ {A = ℕ} 0 1 = ap sign_of e ∙ sign_negated (16 * b.line + refusal_number b.refusal) (omega (arith, q.0)) in
    absurd (omega arith)
number_tells (Err a) (Ok n) p q e =
    let sign : ◌≡◌ {A = ℕ} 0 1 = ap sign_of (sym e) ∙ sign_negated (16 * a.line + refusal_number a.refusal) (omega (arith, p.0)) in
    absurd (omega arith)
number_tells (Err a) (Err b) p t e =
    let first = 16 * a.line + refusal_number a.refusal in
    let second = 16 * b.line + refusal_number b.refusal in
    let same : first ≡ second = sym (size_negated first) ∙ ap size_of e ∙ size_negated second in
    told-both (omega (arith, p.1.0, t.1.0)) (number-tells a.refusal b.refusal (omega (arith, p.1.0, t.1.0)))

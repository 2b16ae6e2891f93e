-- What a line is given each refusal for, both ways; and which numbers a bad line and its refusal can have.
use Rattle.std.specs.Prelude.{ℕ, ◌≤◌, ◌≡◌, refl, Bool, true, false, not, ◌↔◌, ◌≢◌, Option, List, [], ◌∷◌, Some, None}
use Rattle.std.proofs.Common.{sym, true≢false, inl, inr, ⊎_elim, arith}
use Rattle.std.proofs.lemmas.Bool.{false≢true}
use Rattle.notation.specs.ChoiceLaws.{either}
use Rattle.refusals.specs.declared.Refusal.{Refusal}
use Rattle.refusals.specs.declared.Refusal.TheVariants.{Form, Order, Size, Full}
use Rattle.refusals.specs.Refusals.{refused_form, refused_order, refused_size, refused_full}
use Rattle.steps.specs.declared.CheckLine.{CheckLine}
use Rattle.steps.specs.Steps.{steps_of, is_out_of_order, is_uncalled, fits, is_full, first_of, refusal_of}
use Rattle.check_lines.specs.Behind.{Line}
use Rattle.check_lines.specs.CheckLines.{line_says}
use Rattle.check_exactly.specs.Exactly.{ReadSoFar, none, more, LineThat, RefusedBy, FirstBad, SaysThat, OutOfOrder, OutOfSize, TooMany, GivenToLines}

-- ---- What a line is refused for

order_first : (a b c : Bool) → (refused_order ≡ first_of a b c) ↔ (a ≡ true)
order_first true b c = (λ e. refl, λ e. refl)
order_first false true true = (λ e. absurd cc, λ e. absurd (false≢true e))
order_first false true false = (λ e. absurd cc, λ e. absurd (false≢true e))
order_first false false c = (λ e. absurd cc, λ e. absurd (false≢true e))

size_then : (a b c : Bool) → (refused_size ≡ first_of a b c) ↔ ((a ≡ false) × (b ≡ false))
size_then true b c = (λ e. absurd cc, λ h. absurd (true≢false h.0))
size_then false true true = (λ e. absurd cc, λ h. absurd (true≢false h.1))
size_then false true false = (λ e. absurd cc, λ h. absurd (true≢false h.1))
size_then false false c = (λ e. (refl, refl), λ h. refl)

full_last : (a b c : Bool) → (refused_full ≡ first_of a b c) ↔ ((a ≡ false) × (b ≡ true) × (c ≡ true))
full_last true b c = (λ e. absurd cc, λ h. absurd (true≢false h.0))
full_last false true true = (λ e. (refl, refl, refl), λ h. refl)
full_last false true false = (λ e. absurd cc, λ h. absurd (false≢true h.2))
full_last false false c = (λ e. absurd cc, λ h. absurd (false≢true h.1))

form_never : (a b c : Bool) → first_of a b c ≢ refused_form
form_never a b c =
    let never : (r : Option Refusal) → Type 0 = λ r. r ≢ refused_form in
    either never a (λ e. cc) (either never (not b) (λ e. cc) (either never c (λ e. cc) (λ e. cc)))

none_between : (a b c : Bool) (refusal : Refusal) → Some refusal ≡ first_of a b c → GivenToLines refusal
none_between a b c refusal =
    let given : (r : Option Refusal) → Type 0 = λ r. Some refusal ≡ r → GivenToLines refusal in
    either given a (λ e. inr (inl cc)) (either given (not b) (λ e. inr (inr (inl cc))) (either given c (λ e. inr (inr (inr cc))) (λ e. absurd cc)))

-- each number by what it is given for
abbrev pub By : Refusal → (List CheckLine → Line → Type 0) → Type 0
By refusal Holds = (earlier : List CheckLine) (said : Line) → RefusedBy refusal earlier said ↔ Holds earlier said

pub form_by : By Form (λ earlier said. said ≡ None)
unfolding refusal_of
form_by earlier None = (λ e. refl, λ e. refl)
form_by earlier (Some line) = (
  λ given. absurd (form_never (is_out_of_order earlier line) (fits line) (is_full earlier line) (sym given)),
  λ e. cc,
)

-- a line that says something is given another
says-by :
    {refusal : Refusal} {Holds : List CheckLine → CheckLine → Type 0} → refusal ≢ Form
    → ((earlier : List CheckLine) (line : CheckLine) → (Some refusal ≡ refusal_of earlier line) ↔ Holds earlier line)
    → By refusal (SaysThat Holds)
says-by other exactly earlier None = (λ form. absurd (other form), λ none. absurd none)
says-by other exactly earlier (Some line) = exactly earlier line

pub order_by : By Order (SaysThat OutOfOrder)
unfolding refusal_of
order_by = says-by (λ e. cc) (λ earlier line. order_first (is_out_of_order earlier line) (fits line) (is_full earlier line))

pub size_by : By Size (SaysThat OutOfSize)
unfolding refusal_of
size_by = says-by (λ e. cc) (λ earlier line. size_then (is_out_of_order earlier line) (fits line) (is_full earlier line))

pub full_by : By Full (SaysThat TooMany)
unfolding refusal_of
full_by = says-by (λ e. cc) (λ earlier line. full_last (is_out_of_order earlier line) (fits line) (is_full earlier line))

-- ---- The numbers that a bad line can have

uncalled_some :
    {sheet : List ℕ} {count : ℕ} {earlier : List CheckLine} {rest : List (List ℕ)} → ReadSoFar sheet count earlier rest
    → is_uncalled (steps_of earlier) ≡ true → 1 ≤ count
unfolding steps_of is_uncalled
uncalled_some none uncalled = absurd (false≢true uncalled)
uncalled_some (more read says good) uncalled = omega arith

refused_given : (refusal : Refusal) (earlier : List CheckLine) (said : Line) → RefusedBy refusal earlier said → GivenToLines refusal
unfolding refusal_of
refused_given refusal earlier None form = inl form
refused_given refusal earlier (Some line) given =
    none_between (is_out_of_order earlier line) (fits line) (is_full earlier line) refusal given

line_given : (refusal : Refusal) (earlier : List CheckLine) (rest : List (List ℕ)) → LineThat (RefusedBy refusal earlier) rest → GivenToLines refusal
line_given refusal earlier [] holds = absurd holds
line_given refusal earlier (left ∷ []) holds = absurd holds
line_given refusal earlier (text ∷ (next ∷ parts)) holds = refused_given refusal earlier (line_says text) holds

pub bad_given : {sheet : List ℕ} {number : ℕ} {refusal : Refusal} → FirstBad sheet number refusal → (1 ≤ number) × GivenToLines refusal
bad_given {refusal = refusal} =
    ⊎_elim
    (λ at. (omega (arith, at.holds.0), line_given refusal at.earlier at.rest at.holds.1))
    (⊎_elim
    (λ told. (omega (arith, told.1.holds.0), inl told.0))
    (λ told. (
      omega (arith, told.1.holds.0, uncalled_some told.1.read told.1.holds.2),
      inr (inl told.0),
    )))

-- Laws of the verdict: every sheet that is read has lines in order and in their sizes, so the run on names tells whether its
-- instructions are right; and nothing else tells it.
use Rattle.std.specs.Prelude.{ℕ, suc, ◌-◌, ◌≡◌, refl, Bool, true, false, List, [], ◌∷◌, ltb, length, Some, None}
use Rattle.std.proofs.Common.{sym, ◌∙◌}
use Rattle.std.proofs.lemmas.Bool.{false≢true}
use Rattle.std.specs.Prelude.{if◌then◌else◌}
use Rattle.refusals.specs.declared.Refusal.TheVariants.{Form, Order as WrongOrder}
use Rattle.refusals.specs.Refusals.{accepted}
use Rattle.split.specs.Split.{line_feed, split}
use Rattle.steps.specs.declared.CheckLine.{CheckLine}
use Rattle.steps.specs.declared.Order.{Order}
use Rattle.steps.specs.Steps.{steps_of, is_uncalled, refusal_of}
use Rattle.steps.specs.Order.{fresh_order, judged}
use Rattle.steps.specs.Sums.{Sums}
use Rattle.steps.proofs.SumsLaws.{sums_none, sums_refusal, sums_accepted}
use Rattle.check_lines.specs.Behind.{Line}
use Rattle.check_lines.specs.CheckLines.{line_says}
use Rattle.symbolic.specs.Symbolic.{all_accepted}
use Rattle.verdict.specs.VerdictLaws.{verdict_exactly}
use Rattle.check_sheets.specs.CheckSheets.{Reading, bad, reads, with_line, bad_or, last_read, line_read, read_from, reading, Tells, ByVerdict}
use Rattle.check_sheets.specs.Running.{verdict, verdict_of}

-- ---- The lines of a sheet that is read are accepted, one after the other

abbrev Accepted : Order → Reading → Type 0
Accepted order (bad number refusal) = Unit {0}
Accepted order (reads lines) = all_accepted order lines ≡ true

in_front-accepted :
    (order : Order) (line : CheckLine) (r : Reading) → (judged order line).refusal ≡ accepted
    → Accepted (judged order line).order r → Accepted order (with_line line r)
unfolding all_accepted
in_front-accepted order line (bad number refusal) good others = tt
in_front-accepted order line (reads lines) good others = simp (good, others)

last-accepted : (order : Order) (earlier : List CheckLine) (number : ℕ) (left : List ℕ) → Accepted order (last_read earlier number left)
unfolding last_read all_accepted
last-accepted order earlier number left =
    elim (ltb 0 (length left)) as
    (λ b. Accepted order (if b then bad number Form else if is_uncalled (steps_of earlier) then bad (number - 1) WrongOrder else reads [])) [
      | true ↦ tt
      | false ↦ elim (is_uncalled (steps_of earlier)) as
          (λ b. Accepted order (if b then bad (number - 1) WrongOrder else reads []))
          [ true ↦ tt | false ↦ refl ]
    ]

line-accepted :
    (order : Order) (earlier : List CheckLine) → Sums order earlier → (number : ℕ) (said : Line) (others : List CheckLine → Reading)
    → ((order : Order) (earlier : List CheckLine) → Sums order earlier → Accepted order (others earlier))
    → Accepted order (line_read earlier number said others)
line-accepted order earlier sums number None others all = tt
line-accepted order earlier sums number (Some line) others all =
    elim (refusal_of earlier line) as
    (λ r. refusal_of earlier line ≡ r → Accepted order (bad_or number r (with_line line (others (line ∷ earlier))))) [
      | Some refusal ↦ λ e. tt
      | None ↦ λ e. (
          let good : (judged order line).refusal ≡ accepted = sums_refusal order earlier sums line ∙ e in
          in_front-accepted order line (others (line ∷ earlier)) good
          (all (judged order line).order (line ∷ earlier) (sums_accepted order earlier sums line good)))
    ]
    refl

read-accepted :
    (parts : List (List ℕ)) (order : Order) (earlier : List CheckLine) → Sums order earlier → (number : ℕ)
    → Accepted order (read_from earlier number parts)
unfolding read_from all_accepted
read-accepted [] order earlier sums number = refl
read-accepted (left ∷ []) order earlier sums number = last-accepted order earlier number left
read-accepted (line ∷ (next ∷ parts)) order earlier sums number =
    line-accepted order earlier sums number (line_says line) (λ sofar. read_from sofar (suc number) (next ∷ parts))
    (λ order earlier sums. read-accepted (next ∷ parts) order earlier sums (suc number))

-- ---- So the run on names tells whether the instructions are right

accepted_tells : (r : Reading) → Accepted fresh_order r → Tells (verdict_of r) r
unfolding verdict
accepted_tells (bad number refusal) good = refl
accepted_tells (reads lines) good = verdict_exactly lines good

verdict_tells : (sheet : List ℕ) → Tells (verdict_of (reading sheet)) (reading sheet)
unfolding reading
verdict_tells sheet = accepted_tells (reading sheet) (read-accepted (split line_feed sheet) fresh_order [] sums_none 1)

pub by-verdict : (sheet : List ℕ) {Holds : Bool → Type 0} → Holds (verdict_of (reading sheet)) → ByVerdict sheet Holds
by-verdict sheet holds = record { right = verdict_of (reading sheet); tells = verdict_tells sheet; holds = holds }

-- ---- Nothing else tells it

both_ways : (b c : Bool) → (b ≡ true → c ≡ true) → (c ≡ true → b ≡ true) → b ≡ c
both_ways true c there back = sym (there refl)
both_ways false true there back = absurd (false≢true (back refl))
both_ways false false there back = refl

pub tells_once : (r : Reading) {b c : Bool} → Tells b r → Tells c r → b ≡ c
tells_once (bad number refusal) first second = first ∙ sym second
tells_once (reads lines) {b} {c} first second =
    both_ways b c (λ e. second.1 (first.0 e)) (λ e. first.1 (second.0 e))

-- what follows of a verdict holds by the same verdict
pub by-verdict_so :
    {sheet : List ℕ} {Holds Other : Bool → Type 0} → ByVerdict sheet Holds → ((right : Bool) → Holds right → Other right)
    → ByVerdict sheet Other
by-verdict_so v so = record { right = v.right; tells = v.tells; holds = so v.right v.holds }

-- Bundles at the edges, by rule 18.3: the empty one, and as many clauses as fit.
use Rattle.std.specs.Prelude.{ℕ, zero, suc, ◌*◌, ◌≤◌, ◌<◌, ◌≡◌, refl, true, List, [], ◌++◌, length}
use Rattle.std.proofs.Common.{ap, ap₂, subst, ◌∙◌, arith}
use Rattle.notation.specs.Text.{bytes}
use Rattle.refusals.specs.declared.Refusal.TheVariants.{Room}
use Rattle.sizes.specs.Sizes.{sheet_bytes}
use Rattle.split.specs.Split.{split, joined}
use Rattle.split.specs.SplitTrips.{all_free}
use Rattle.numbers.specs.Numbers.{written, decimal}
use Rattle.instructions.specs.Instructions.{line}
use Rattle.answers.specs.Answers.{end_text}
use Rattle.answered.specs.Answered.{refused}
use Rattle.event_sheets.specs.EventSheets.{max_reg_allocated, last_ran, ran, sheet_ran}
use Rattle.bundles.specs.Bundles.{sheet_of, ran_text, clause_text, clause_texts, answered}
use Rattle.bundle_exactly.specs.Exactly.{no_clause, are_bodies, bundle_of, Fits, AnsweredWith, empties, empty_texts}
use Rattle.bundle_exactly.proofs.AloneLaws.{bodies_texts, bodies_roomless}

-- the empty bundle prints nothing
pub empty-answered : (out : List ℕ) → AnsweredWith [] out []
unfolding are_bodies bundle_of clause_texts
empty-answered out = bodies_texts [] refl out (record { bundle-fits = omega arith; text-fits = omega arith })

-- a clause with no line prints `end 1 0`
pub empty-text : clause_text [] ≡ bytes "end\t1\t0\n"
unfolding clause_text ran_text sheet_of sheet_ran ran split last_ran max_reg_allocated end_text line joined decimal written
empty-text = refl

-- ---- So many of them: 7 bytes each, which print 8

empties_bodies : (n : ℕ) → are_bodies (empties n) ≡ true
unfolding are_bodies all_free no_clause
empties_bodies zero = refl
empties_bodies (suc n) = empties_bodies n

pub empties-length : (n : ℕ) → length (bundle_of (empties n)) ≡ 7 * n
unfolding bundle_of sheet_of
empties-length zero = refl
empties-length (suc n) = omega (arith, empties-length n)

empties-texts : (n : ℕ) → clause_texts (empties n) ≡ empty_texts n
unfolding clause_texts empty_texts
empties-texts zero = refl
empties-texts (suc n) = ap₂ (λ (a b : List ℕ). a ++ b) empty-text (empties-texts n)

pub empty_texts-length : (n : ℕ) → length (empty_texts n) ≡ 8 * n
unfolding empty_texts
empty_texts-length zero = refl
empty_texts-length (suc n) = omega (arith, empty_texts-length n)

empties-texts-length : (n : ℕ) → length (clause_texts (empties n)) ≡ 8 * n
empties-texts-length n = ap length (empties-texts n) ∙ empty_texts-length n

module _ (n : ℕ) (short : 7 * n ≤ sheet_bytes) where
  pub empties-written : (out : List ℕ) → 8 * n ≤ length out → AnsweredWith (bundle_of (empties n)) out (empty_texts n)
  empties-written out room =
      let fits : Fits (empties n) (length out) =
      record { bundle-fits = omega (arith, empties-length n); text-fits = omega (arith, empties-texts-length n) }
      in
      subst (AnsweredWith (bundle_of (empties n)) out) (empties-texts n) (bodies_texts (empties n) (empties_bodies n) out fits)

  pub empties_roomless : (room : ℕ) → room < 8 * n → answered (bundle_of (empties n)) room ≡ refused 0 Room
  empties_roomless room small =
      bodies_roomless (empties n) (empties_bodies n) room (omega (arith, empties-length n)) (omega (arith, empties-texts-length n))

-- 8,192 of them print 65,536 bytes, and one more does not fit
pub most_empties :
    (out : List ℕ) → length out ≡ sheet_bytes → AnsweredWith (bundle_of (empties 8_192)) out (empty_texts 8_192)
most_empties out room = empties-written 8_192 (omega arith) out (omega arith)

pub one-empty_more : answered (bundle_of (empties 8_193)) sheet_bytes ≡ refused 0 Room
one-empty_more = empties_roomless 8_193 (omega arith) sheet_bytes (omega arith)

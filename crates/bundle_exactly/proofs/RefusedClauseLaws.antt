-- Rules 18.4, 18.7: a clause whose event sheet is refused at a line prints its `no` line and nothing else.
use Rattle.std.specs.Prelude.{ℕ, ◌≤◌, ◌≡◌, ltb, length, Option, Some, None}
use Rattle.std.proofs.Math.Path.{refl, ap, ap₂, sym}
use Rattle.std.proofs.Common.{◌∙◌, arith, le-ltb}
use Rattle.notation.specs.ChoiceLaws.{either}
use Rattle.refusals.specs.declared.Refusal.{Refusal}
use Rattle.refusals.specs.Refusals.{number_of as refusal_number, accepted}
use Rattle.sizes.specs.Sizes.{sheet_bytes}
use Rattle.answered.specs.Answered.{Answered, refused, refusal_text}
use Rattle.answered.specs.NumberLaws.{line_in, told_alike}
use Rattle.event_sheets.specs.EventSheets.{Ran, answered_by, answered as sheet_answered}
use Rattle.bundles.specs.Bundles.{ran_text, clause_text, all_ran}
use Rattle.bundle_exactly.specs.Exactly.{Body}
use Rattle.bundle_exactly.specs.OneClause.{sheet, run}

module _ (r : Ran) (room : ℕ) where
  -- a run that is not refused is answered by its text alone
  pub accepted_alike : r.refusal ≡ accepted → answered_by (all_ran r.text) room ≡ answered_by r room
  unfolding answered_by
  accepted_alike e = simp e

  pub accepted-whole : r.refusal ≡ accepted → line_in (answered_by r room) ≡ 0
  unfolding answered_by
  accepted-whole e = simp e (either (λ (a : Answered). line_in a ≡ 0) (ltb room (length r.text)) refl refl)

  refused_alike : {refusal : Refusal} → r.refusal ≡ Some refusal → answered_by r room ≡ refused r.line refusal
  unfolding answered_by
  refused_alike e = simp e

module _ (body : Body) where
  module _ (fits : length (sheet body) ≤ sheet_bytes) where
    pub sheet-by-run : (room : ℕ) → sheet_answered (sheet body) room ≡ answered_by (run body) room
    unfolding sheet_answered
    sheet-by-run room = simp (le-ltb sheet_bytes (length (sheet body)) fits)

    module _ {refusal : Refusal} (e : (run body).refusal ≡ Some refusal) where
      pub refused-sheet : (room : ℕ) → sheet_answered (sheet body) room ≡ refused (run body).line refusal
      refused-sheet room = sheet-by-run room ∙ refused_alike (run body) room e

      refused-text : clause_text body ≡ refusal_text (run body).line (refusal_number refusal)
      unfolding clause_text ran_text
      refused-text = simp e

    -- rules 18.4, 18.7: where the sheet is refused at a line, the clause prints its `no` line and nothing else, also among others
    pub refused_costs_its_line :
        (room : ℕ) {number : ℕ} {refusal : Refusal} → 1 ≤ number → sheet_answered (sheet body) room ≡ refused number refusal
        → clause_text body ≡ refusal_text number (refusal_number refusal)
    refused_costs_its_line room {number} {refusal} some h =
        elim (run body).refusal as (λ (r : Option Refusal). (run body).refusal ≡ r → clause_text body ≡ refusal_text number (refusal_number refusal)) [
          | Some why ↦ λ e. (let alike = told_alike (sym (refused-sheet e room) ∙ h) in
              refused-text e ∙ ap₂ refusal_text alike.0 (ap refusal_number alike.1))
          | None ↦ λ e. absurd (omega (arith, accepted-whole (run body) room e, ap line_in (sym (sheet-by-run room) ∙ h)))
        ]
        refl

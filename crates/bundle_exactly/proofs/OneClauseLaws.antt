-- Rules 18.2, 18.4: a bundle of one clause prints what the event sheet of its lines prints, or its `no` line.
use Rattle.std.specs.Prelude.{ℕ, ◌≤◌, ◌<◌, ◌≡◌, Option, length, Ok, Some, None, true}
use Rattle.std.proofs.Math.Path.{refl, ap, ap₂, sym}
use Rattle.std.proofs.Common.{subst, ◌∙◌, arith}
use mathlib.Core.List.{List, [], ◌∷◌}
use Rattle.std.proofs.Math.ListN.{length-append}
use Rattle.refusals.specs.declared.Refusal.{Refusal}
use Rattle.refusals.specs.declared.Refusal.TheVariants.{Room}
use Rattle.refusals.specs.Refusals.{number_of as refusal_number, accepted, is_refused}
use Rattle.sizes.specs.Sizes.{sheet_bytes}
use Rattle.split.specs.Split.{line_feed}
use Rattle.answered.specs.Answered.{refused, filled_by, refusal_text}
use Rattle.answered.specs.NumberLaws.{line_in}
use Rattle.event_sheets.specs.EventSheets.{answered_by, answered as sheet_answered, filled as sheet_filled}
use Rattle.bundles.specs.Bundles.{clause_word, sheet_of, ran_text, clause_text, clause_texts, all_ran, bundle_ran, answered, filled}
use Rattle.bundle_exactly.specs.Exactly.{Body, are_bodies, bundle_of, AnsweredWith}
use Rattle.bundle_exactly.proofs.ReadBackLaws.{bodies_bundle}
use Rattle.bundle_exactly.proofs.RefusedLaws.{bundle_ran_lem}
use Rattle.bundle_exactly.proofs.AloneLaws.{text-read, text-one, bodies_texts, bodies_roomless}
use Rattle.bundle_exactly.proofs.PrintedLaws.{clause_line_positive}
use Rattle.bundle_exactly.specs.OneClause.{sheet, run, bundle}
use Rattle.bundle_exactly.proofs.RefusedClauseLaws.{accepted_alike, sheet-by-run, refused-sheet, refused_costs_its_line}

module _ (body : Body) where
  module _ (own : are_bodies (body ∷ []) ≡ true) where
    module _ (short : length (bundle body) ≤ sheet_bytes) where
      sheet-fits : length (sheet body) ≤ sheet_bytes
      unfolding bundle_of sheet_of
      sheet-fits =
          omega (arith, short, length-append (sheet_of (clause_word ∷ body)) [], length-append clause_word (line_feed ∷ sheet_of body))

      one-ran : bundle_ran (bundle body) ≡ all_ran (clause_text body)
      one-ran =
          bundle_ran_lem (bundle body) (bodies_bundle (body ∷ []) own short) ∙ ap all_ran (text-read (body ∷ []) own ∙ text-one body)

      module _ (e : (run body).refusal ≡ accepted) where
        accepted_text_lem : clause_text body ≡ (run body).text
        unfolding clause_text ran_text
        accepted_text_lem = simp e

        accepted-answered : (room : ℕ) → answered (bundle body) room ≡ sheet_answered (sheet body) room
        unfolding answered
        accepted-answered room =
            ap (λ r. answered_by r room) (one-ran ∙ ap all_ran accepted_text_lem)
            ∙ accepted_alike (run body) room e
            ∙ sym (sheet-by-run body sheet-fits room)

        accepted-filled : (out : List ℕ) → filled (bundle body) out ≡ sheet_filled (sheet body) out
        unfolding filled sheet_filled
        accepted-filled out =
            ap₂ (λ a text. filled_by a text out) (accepted-answered (length out)) (ap (λ r. r.text) one-ran ∙ accepted_text_lem)

      no_line :
          (room : ℕ) {number : ℕ} {refusal : Refusal} → 1 ≤ number → sheet_answered (sheet body) room ≡ refused number refusal
          → clause_texts (body ∷ []) ≡ refusal_text number (refusal_number refusal)
      no_line room some h = text-one body ∙ refused_costs_its_line body sheet-fits room some h

      -- ---- The answer to the bundle by that to the sheet

      -- written: the same count, and the same bytes
      pub one_written :
          (out : List ℕ) {count : ℕ} → sheet_answered (sheet body) (length out) ≡ Ok count
          → (answered (bundle body) (length out) ≡ Ok count) × (filled (bundle body) out ≡ sheet_filled (sheet body) out)
      one_written out {count} h =
          elim (run body).refusal as
          (λ (r : Option Refusal). (run body).refusal ≡ r
          → (answered (bundle body) (length out) ≡ Ok count) × (filled (bundle body) out ≡ sheet_filled (sheet body) out)) [
            | Some why ↦ λ e. absurd (let never = sym (refused-sheet body sheet-fits e (length out)) ∙ h in cc)
            | None ↦ λ e. (accepted-answered e (length out) ∙ h, accepted-filled e out)
          ]
          refl

      -- no room for it: the same
      pub one_roomless :
          (room : ℕ) {refusal : Refusal} → sheet_answered (sheet body) room ≡ refused 0 refusal → answered (bundle body) room ≡ refused 0 refusal
      one_roomless room {refusal} h =
          elim (run body).refusal as (λ (r : Option Refusal). (run body).refusal ≡ r → answered (bundle body) room ≡ refused 0 refusal) [
            | Some why ↦ λ e. (let some = clause_line_positive (sheet body) (ap is_refused e) in
                absurd (omega (arith, some, ap line_in (sym h ∙ refused-sheet body sheet-fits e room))))
            | None ↦ λ e. accepted-answered e room ∙ h
          ]
          refl

      -- refused at a line: its `no` line, where there is room for that
      pub one-refused :
          (out : List ℕ) {number : ℕ} {refusal : Refusal} → 1 ≤ number → sheet_answered (sheet body) (length out) ≡ refused number refusal
          → length (refusal_text number (refusal_number refusal)) ≤ length out
          → AnsweredWith (bundle body) out (refusal_text number (refusal_number refusal))
      one-refused out some h room =
          let text = no_line (length out) some h in
          let fits : length (clause_texts (body ∷ [])) ≤ length out = omega (arith, room, ap length text) in
          subst (AnsweredWith (bundle body) out) text
          (bodies_texts (body ∷ []) own out (record { bundle-fits = short; text-fits = fits }))

      pub one-refused_roomless :
          (room : ℕ) {number : ℕ} {refusal : Refusal} → 1 ≤ number → sheet_answered (sheet body) room ≡ refused number refusal
          → room < length (refusal_text number (refusal_number refusal))
          → answered (bundle body) room ≡ refused 0 Room
      one-refused_roomless room some h small =
          bodies_roomless (body ∷ []) own room short (omega (arith, small, ap length (no_line room some h)))

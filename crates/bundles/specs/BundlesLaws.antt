-- Laws of the answer: what a run over a bundle makes of it, and that it stays within the room.
use Rattle.std.specs.Prelude.{ℕ, ◌+◌, ◌≤◌, ◌<◌, ◌≡◌, List, ◌++◌, ltb, length, take, drop, Option, Ok, Err, Some}
use Rattle.std.proofs.Common.{ap, ap₂, sym, ◌∙◌, arith, take_all, length-take-le}
use Rattle.notation.specs.ChoiceLaws.{either}
use Rattle.refusals.specs.declared.Refusal.{Refusal}
use Rattle.refusals.specs.declared.Refusal.TheVariants.{Room}
use Rattle.refusals.specs.Refusals.{accepted, is_refused}
use Rattle.sizes.specs.Sizes.{sheet_bytes}
use Rattle.printing.specs.Printing.{printed}
use Rattle.answered.specs.Answered.{Answered, refused, filled_by}
use Rattle.answered.specs.AnsweredLaws.{Within, written_bound, refused_bound, filled_by-length}
use Rattle.event_sheets.specs.declared.Run.{Run}
use Rattle.event_sheets.specs.EventSheets.{Ran}
use Rattle.event_sheets.specs.EventSheetsLaws.{answered_by_within}
use Rattle.event_sheets.specs.Running.{told}
use Rattle.event_sheets.specs.AnswerLaws.{AnsweredBy, run-refused, run_longer, run-written, run_copied}
use Rattle.bundles.specs.Bundles.{lines_of, is_unended, is_stray, has_more, bundle_ran, answered, filled}
use Rattle.bundles.specs.Running.{refusal_before, clauses_ran, Fronts}
use Rattle.bundles.specs.FrontLaws.{fronts_whole}
use Rattle.bundles.specs.RunningLaws.{Begins, bundle-refused, bundle-run}

-- ---- Each way to an answer

module _ (bundle out : List ℕ) where
  bundle-answered :
      {a : Answered} {after : List ℕ} → AnsweredBy (bundle_ran bundle) out a after
      → (a ≡ answered bundle (length out)) × (after ≡ filled bundle out)
  unfolding answered filled
  bundle-answered by = by

  -- what refuses it before its clauses are looked at
  pub answer-before :
      {before : Option Refusal} {refusal : Refusal} → before ≡ refusal_before bundle → before ≡ Some refusal
      → (refused 0 refusal ≡ answered bundle (length out)) × (out ≡ filled bundle out)
  answer-before {before} e bad =
      let run : Run = record { line = 0; refusal = before; length = 0 } in
      let tells : run ≡ told (bundle_ran bundle) =
      ap (λ (r : Option Refusal). record { line = 0; refusal = r; length = 0 }) e ∙ ap told (sym (bundle-refused bundle (ap is_refused (sym e ∙ bad)))) in
      bundle-answered (run-refused (bundle_ran bundle) out tells bad)

  module _ (b : Begins bundle) {run : Run} (e : run ≡ told (clauses_ran (lines_of bundle))) where
    tells : run ≡ told (bundle_ran bundle)
    tells = e ∙ ap told (sym (bundle-run bundle b))

    counted : run.length ≡ length (clauses_ran (lines_of bundle)).text
    counted = ap (λ r. r.length) e

    pub answer-refused :
        {refusal : Refusal} → run.refusal ≡ Some refusal → (refused run.line refusal ≡ answered bundle (length out)) × (out ≡ filled bundle out)
    answer-refused bad = bundle-answered (run-refused (bundle_ran bundle) out tells bad)

    module _ (good : run.refusal ≡ accepted) where
      pub answer_longer :
          length out < run.length → (refused 0 Room ≡ answered bundle (length out)) × (out ≡ filled bundle out)
      answer_longer long = bundle-answered (run_longer (bundle_ran bundle) out tells good long)

      module _ (short : run.length ≤ length out) where
        -- kept aside and copied
        pub answer_copied :
            (aside : List ℕ) {kept copy after : List ℕ} → run.length ≤ length aside
            → (run.refusal ≡ accepted → Fronts aside 0 (clauses_ran (lines_of bundle)).text kept)
            → copy ≡ take run.length kept
            → after ≡ printed out 0 copy
            → (Ok run.length ≡ answered bundle (length out)) × (after ≡ filled bundle out)
        answer_copied aside {kept = kept} room fronts taken put =
            let whole = taken
            ∙ ap (λ (k : ℕ). take k kept) counted
            ∙ fronts_whole aside (clauses_ran (lines_of bundle)).text (omega (arith, counted)) (fronts good)
            ∙ ap (λ r. r.text) (sym (bundle-run bundle b)) in
            bundle-answered (run_copied (bundle_ran bundle) out tells good short whole put)

        -- made again in the lent bytes, in as many as it has
        pub answer-again :
            {again : Run} {size : ℕ} {made after : List ℕ} → size ≡ run.length → again ≡ told (clauses_ran (lines_of bundle))
            → (again.refusal ≡ accepted → Fronts (take size out) 0 (clauses_ran (lines_of bundle)).text made)
            → after ≡ made ++ drop size out
            → (Ok run.length ≡ answered bundle (length out)) × (after ≡ filled bundle out)
        answer-again {again} {size} {made} sized same fronts fills =
            let text = (clauses_ran (lines_of bundle)).text in
            let room : length (take size out) ≡ size = length-take-le size out (omega (arith, sized)) in
            let f = fronts (ap (λ r. r.refusal) (same ∙ sym e) ∙ good) in
            let whole : made ≡ text =
            sym (take_all (length text) made (omega (arith, f.room, room, counted)))
            ∙ fronts_whole (take size out) text (omega (arith, room, counted)) f in
            bundle-answered
            (run-written (bundle_ran bundle) out tells good short
            (fills ∙ ap₂ (λ (l : List ℕ) (n : ℕ). l ++ drop n out) (whole ∙ ap (λ r. r.text) (sym (bundle-run bundle b))) sized))

-- ---- Within the room, and every refusal is the whole bundle's

ran-whole : (bundle : List ℕ) → (bundle_ran bundle).line ≤ 0
unfolding bundle_ran
ran-whole bundle =
    let whole : Ran → Type 0 = λ r. r.line ≤ 0 in
    either whole (ltb sheet_bytes (length bundle)) (omega arith)
    (either whole (is_unended bundle) (omega arith)
    (either whole (is_stray (lines_of bundle)) (omega arith) (either whole (has_more (lines_of bundle)) (omega arith) (omega arith))))

answered-whole : (bundle : List ℕ) (room : ℕ) → Within room (bundle_ran bundle).text 0 (answered bundle room)
unfolding answered
answered-whole bundle room = answered_by_within (bundle_ran bundle) room 0 (ran-whole bundle)

within_more : (room : ℕ) (text : List ℕ) (few more : ℕ) (a : Answered) → few ≤ more → Within room text few a → Within room text more a
within_more room text few more (Ok count) h w = w
within_more room text few more (Err told) h w = omega (arith, w)

pub answered_within : (bundle : List ℕ) (room : ℕ) → Within room (bundle_ran bundle).text (sheet_bytes + 1) (answered bundle room)
answered_within bundle room =
    within_more room (bundle_ran bundle).text 0 (sheet_bytes + 1) (answered bundle room) (omega arith) (answered-whole bundle room)

-- the count of bytes is the text's, and there is room for it
pub written_within :
    (bundle : List ℕ) (room count : ℕ) → answered bundle room ≡ Ok count
    → (count ≤ room) × (count ≡ length (bundle_ran bundle).text)
written_within bundle room count e = written_bound room _ _ (answered bundle room) (answered-whole bundle room) e

-- rule 18.6: a refusal's line is 0
pub line-whole : (bundle : List ℕ) (room line : ℕ) (refusal : Refusal) → answered bundle room ≡ refused line refusal → line ≡ 0
line-whole bundle room line refusal e = omega (arith, refused_bound room _ _ (answered bundle room) (answered-whole bundle room) e)

-- the lent bytes stay as many
pub filled-length : (bundle out : List ℕ) → length (filled bundle out) ≡ length out
unfolding filled
filled-length bundle out =
    filled_by-length (bundle_ran bundle).text out 0 (answered bundle (length out)) (answered-whole bundle (length out))

-- rule 1.3: and a refusal leaves each of them as it was
pub refused_untouched :
    (bundle out : List ℕ) (line : ℕ) (refusal : Refusal) → answered bundle (length out) ≡ refused line refusal → filled bundle out ≡ out
unfolding filled
refused_untouched bundle out line refusal e = ap (λ a. filled_by a (bundle_ran bundle).text out) e

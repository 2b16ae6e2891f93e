-- Laws of the answer: what the code makes of a run.
use Rattle.std.specs.Prelude.{ℕ, ◌≤◌, ◌<◌, ◌≡◌, refl, true, false, List, ◌++◌, ltb, take, drop, Ok, Some}
use Rattle.std.proofs.Math.Path.{ap, ap₂, sym}
use Rattle.std.proofs.Common.{◌∙◌, zero-add, arith, length-append, length-drop, take_all}
use Rattle.std.proofs.Math.ListN.{length}
use borrow.Author.Tests.{lt-ltb, le-ltb}
use Rattle.std.specs.Prelude.{if◌then◌else◌}
use Rattle.refusals.specs.declared.Refusal.{Refusal}
use Rattle.refusals.specs.declared.Refusal.TheVariants.{Full, Room}
use Rattle.refusals.specs.Refusals.{accepted, refused_full}
use Rattle.sizes.specs.Sizes.{sheet_bytes}
use Rattle.printing.specs.Printing.{printed}
use Rattle.answers.specs.AnswersLaws.{read_back}
use Rattle.answered.specs.Answered.{Answered, refused, filled_by}
use Rattle.event_sheets.specs.declared.Run.{Run}
use Rattle.event_sheets.specs.EventSheets.{Ran, refused_at, sheet_ran, answered_by, answered, filled}
use Rattle.event_sheets.specs.Running.{whole_ran, told}

-- a text for which there is room, and what lies past it
printed-whole : (out text : List ℕ) → length text ≤ length out → printed out 0 text ≡ text ++ drop (length text) out
unfolding printed
printed-whole out text h =
    rw zero-add
    (take_all (length out) (text ++ drop (length text) out) (omega (arith, length-append text (drop (length text) out), length-drop (length text) out)))

-- ---- A run, with lent bytes for its text

module _ (r : Ran) (out : List ℕ) where
  -- the answer, and the lent bytes after it
  abbrev pub AnsweredBy : Answered → List ℕ → Type 0
  AnsweredBy a after = (a ≡ answered_by r (length out)) × (after ≡ filled_by (answered_by r (length out)) r.text out)

  -- the lent bytes go by the answer
  by : {a : Answered} {after : List ℕ} → a ≡ answered_by r (length out) → after ≡ filled_by a r.text out → AnsweredBy a after
  by e fills = (e, fills ∙ ap (λ a. filled_by a r.text out) e)

  module _ {run : Run} (e : run ≡ told r) where
    refusal_told : run.refusal ≡ r.refusal
    refusal_told = ap (λ r. r.refusal) e

    length-told : run.length ≡ length r.text
    length-told = ap (λ r. r.length) e

    -- lines first
    answered-refused : {refusal : Refusal} → run.refusal ≡ Some refusal → refused run.line refusal ≡ answered_by r (length out)
    unfolding answered_by
    answered-refused {refusal} bad =
        ap (λ line. refused line refusal) (ap (λ r. r.line) e) ∙ simp (sym refusal_told ∙ bad)

    pub run-refused : {refusal : Refusal} → run.refusal ≡ Some refusal → AnsweredBy (refused run.line refusal) out
    run-refused bad = by (answered-refused bad) refl

    module _ (good : run.refusal ≡ accepted) where
      accepted-told : r.refusal ≡ accepted
      accepted-told = sym refusal_told ∙ good

      -- room last
      answered_longer : length out < run.length → refused 0 Room ≡ answered_by r (length out)
      unfolding answered_by
      answered_longer long =
          let l : length out < length r.text = omega (arith, length-told) in
          sym (simp (accepted-told, lt-ltb _ _ l))

      pub run_longer : length out < run.length → AnsweredBy (refused 0 Room) out
      run_longer long = by (answered_longer long) refl

      answered-written : run.length ≤ length out → Ok run.length ≡ answered_by r (length out)
      unfolding answered_by
      answered-written short =
          let l : length r.text ≤ length out = omega (arith, length-told) in
          ap Ok length-told ∙ sym (simp (accepted-told, le-ltb _ _ l))

      pub run-written :
          {after : List ℕ} → run.length ≤ length out → after ≡ r.text ++ drop run.length out
          → AnsweredBy (Ok run.length) after
      run-written short fills = by (answered-written short) fills

      pub run-printed :
          {after : List ℕ} → run.length ≤ length out → after ≡ printed out 0 r.text
          → AnsweredBy (Ok run.length) after
      run-printed short put =
          run-written short
          (put
          ∙ printed-whole out r.text (omega (arith, length-told))
          ∙ ap (λ (k : ℕ). r.text ++ drop k out) (sym length-told))

      -- a text that was kept aside is copied as it is
      pub run_copied :
          {copy after : List ℕ} → run.length ≤ length out → copy ≡ r.text → after ≡ printed out 0 copy
          → AnsweredBy (Ok run.length) after
      run_copied short whole put = run-printed short (put ∙ ap (printed out 0) whole)

-- the front of what is kept aside
pub kept_aside :
    (aside text : List ℕ) {count : ℕ} {kept copy : List ℕ} → count ≡ length text → count ≤ length aside
    → kept ≡ printed aside 0 text
    → copy ≡ take count kept
    → copy ≡ text
kept_aside aside text counted room kept taken =
    taken ∙ ap₂ take counted kept ∙ read_back aside text (omega (arith, counted))

-- ---- A sheet

-- length first: the answer to a sheet is what its run makes, where it is not too long
pub sheet-answered :
    (sheet out : List ℕ) {a : Answered} {after : List ℕ} → AnsweredBy (whole_ran sheet) out a after
    → (a ≡ answered sheet (length out)) × (after ≡ filled sheet out)
unfolding answered filled whole_ran answered_by
sheet-answered sheet out {a} {after} =
    elim (ltb sheet_bytes (length sheet)) as
    (λ t. AnsweredBy (if t then refused_at 0 refused_full else sheet_ran sheet) out a after
    → (a ≡ (if t then refused 0 Full else answered_by (sheet_ran sheet) (length out)))
    × (after ≡ filled_by (if t then refused 0 Full else answered_by (sheet_ran sheet) (length out)) (sheet_ran sheet).text out))
    [ true ↦ λ h. h | false ↦ λ h. h ]

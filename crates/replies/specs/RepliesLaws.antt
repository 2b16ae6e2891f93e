-- Laws of replies: what stands in the lent bytes, for each kind of sheet.
use Rattle.std.specs.Prelude.{ℕ, ◌+◌, ◌≤◌, ◌≡◌, refl, Bool, List, ◌++◌, length, drop, Ok, Err}
use Rattle.std.proofs.Common.{sym, subst, zero-add, arith, length-append, length-drop, take_all, le-leb}
use Rattle.refusals.specs.declared.Refusal.{Refusal}
use Rattle.refusals.specs.Refusals.{number_of as refusal_number}
use Rattle.sizes.specs.Sizes.{sheet_bytes, largest_number}
use Rattle.printing.specs.Printing.{printed, place_after, Put}
use Rattle.answered.specs.Answered.{Answered, refused, filled_by, refusal_text}
use Rattle.answered.specs.AnsweredLaws.{Within}
use Rattle.event_sheets.specs.EventSheets as events
use Rattle.event_sheets.specs.EventSheetsLaws.{answered_within as events-within}
use Rattle.bundles.specs.Bundles as bundles
use Rattle.bundles.specs.BundlesLaws.{answered_within as bundle-within}
use Rattle.check_sheets.specs.CheckSheets as check
use Rattle.check_sheets.specs.CheckSheetsLaws.{answered_within as check-within}
use Rattle.replies.specs.Replies.{replied, event_reply, bundle_reply, check_reply, Printable, Told}

-- ---- Each way to print an answer

module _ {a : Answered} {number : ℕ} {refusal : Refusal} (e : a ≡ refused number refusal) where
  pub refused_printable : Printable a → number ≤ largest_number
  refused_printable p = subst Printable e p

  pub refused-told : {out : List ℕ} {next : ℕ} {after : List ℕ} → Put out 0 (refusal_text number (refusal_number refusal)) next after → Told a out next after
  refused-told {out} {next} {after} put = subst (λ a. Told a out next after) (sym e) put

pub written-told : {a : Answered} {count : ℕ} → a ≡ Ok count → (out : List ℕ) → Told a out count out
written-told {count = count} e out = subst (λ a. Told a out count out) (sym e) (refl, refl)

-- ---- Any answer that stays within its bounds

-- its line's number can be printed
within_printable : (room : ℕ) (text : List ℕ) (a : Answered) → Within room text (sheet_bytes + 1) a → Printable a
within_printable room text (Ok count) w = tt
within_printable room text (Err told) w = omega arith

-- a text for which there is room, and what lies past it
put_whole : (out text : List ℕ) → length text ≤ length out → Put out 0 text (length text) (text ++ drop (length text) out)
unfolding printed place_after
put_whole out text h =
    record {
      place = rw zero-add (simp (le-leb _ _ h));
      bytes = sym
          (rw zero-add
          (take_all (length out) (text ++ drop (length text) out) (omega (arith, length-append text (drop (length text) out), length-drop (length text) out))));
    }

-- an answer that was written is the reply; a refusal left the lent bytes as they were, and its line is the reply
told-put :
    (text out : List ℕ) (lines : ℕ) (a : Answered) → Within (length out) text lines a
    → (next : ℕ) (after : List ℕ) → Told a (filled_by a text out) next after → Put out 0 (replied a text) next after
told-put text out lines (Ok count) w next after told =
    rw (told.1, told.0, w.1) (put_whole out text (omega (arith, w.0, w.1)))
told-put text out lines (Err at) w next after told = told

module _ (text out : List ℕ) (b : Answered) (w : Within (length out) text (sheet_bytes + 1) b) {a : Answered} (e : a ≡ b) where
  answered_printable : Printable a
  answered_printable = subst Printable (sym e) (within_printable (length out) text b w)

  answered-put :
      (left : List ℕ) (next : ℕ) (after : List ℕ) → left ≡ filled_by b text out → Told a left next after
      → Put out 0 (replied b text) next after
  answered-put left next after fills told =
      told-put text out (sheet_bytes + 1) b w next after
      (subst (λ l. Told b l next after) fills (subst (λ b. Told b left next after) e told))

-- ---- Each kind of sheet

module _ (sheet out : List ℕ) {a : Answered} where
  pub event_printable : a ≡ events.answered sheet (length out) → Printable a
  event_printable e = answered_printable (events.sheet_ran sheet).text out (events.answered sheet (length out)) (events-within sheet (length out)) e

  pub event_put :
      {left : List ℕ} {next : ℕ} {after : List ℕ} → a ≡ events.answered sheet (length out) → left ≡ events.filled sheet out
      → Told a left next after
      → Put out 0 (event_reply sheet (length out)) next after
  unfolding event_reply events.filled
  event_put {left} {next} {after} e fills told =
      answered-put (events.sheet_ran sheet).text out (events.answered sheet (length out)) (events-within sheet (length out)) e left next after fills told

  pub bundle_printable : a ≡ bundles.answered sheet (length out) → Printable a
  bundle_printable e = answered_printable (bundles.bundle_ran sheet).text out (bundles.answered sheet (length out)) (bundle-within sheet (length out)) e

  pub bundle-put :
      {left : List ℕ} {next : ℕ} {after : List ℕ} → a ≡ bundles.answered sheet (length out) → left ≡ bundles.filled sheet out
      → Told a left next after
      → Put out 0 (bundle_reply sheet (length out)) next after
  unfolding bundle_reply bundles.filled
  bundle-put {left} {next} {after} e fills told =
      answered-put (bundles.bundle_ran sheet).text out (bundles.answered sheet (length out)) (bundle-within sheet (length out)) e left next after fills told

  pub check_printable : (right : Bool) → a ≡ check.answered right sheet (length out) → Printable a
  check_printable right e = answered_printable (check.word_of right) out (check.answered right sheet (length out)) (check-within right sheet (length out)) e

  pub check_put :
      {left : List ℕ} {next : ℕ} {after : List ℕ} (right : Bool)
      → a ≡ check.answered right sheet (length out) → left ≡ check.filled right sheet out
      → Told a left next after
      → Put out 0 (check_reply right sheet (length out)) next after
  unfolding check_reply check.filled
  check_put {left} {next} {after} right e fills told =
      answered-put (check.word_of right) out (check.answered right sheet (length out)) (check-within right sheet (length out)) e left next after fills told

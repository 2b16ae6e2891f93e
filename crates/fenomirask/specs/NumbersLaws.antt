-- Laws of the numbers: every answer to a sheet or a call fits into one.
use Rattle.std.specs.Prelude.{ℕ, ◌≤◌, ◌<◌, ◌^◌, ◌+◌, ◌≡◌, refl, Bool, List, Ok, Err}
use Rattle.std.proofs.Common.{sym, subst, arith}
use Rattle.refusals.specs.declared.Refusal.{Refusal}
use Rattle.sizes.specs.Sizes.{sheet_bytes}
use Rattle.answered.specs.Answered.{Answered, refused}
use Rattle.answered.specs.AnsweredLaws.{Within}
use Rattle.debray_allocator.specs.declared.State.{State}
use Rattle.event_calls.specs.EventCalls.{called, last_answered}
use Rattle.event_calls.specs.EventCallsLaws.{call_within, last_within}
use Rattle.event_sheets.specs.EventSheets.{answered as answered_events}
use Rattle.event_sheets.specs.EventSheetsLaws.{written_within as events-written, line_within as events-line}
use Rattle.bundles.specs.Bundles.{answered as answered_bundle}
use Rattle.bundles.specs.BundlesLaws.{written_within as bundle_written, line-whole as bundle-line}
use Rattle.check_sheets.specs.CheckSheets.{answered as answered_check}
use Rattle.check_sheets.specs.CheckSheetsLaws.{written_within as check-written, line_within as check-line}
use Rattle.fenomirask.specs.Numbers.{Fits}

-- an answer fits, if its count stays within the room and its line within the sheet
within_fits :
    (room : ℕ) (a : Answered) → room < 2 ^ 63
    → ((count : ℕ) → a ≡ Ok count → count ≤ room)
    → ((line : ℕ) (refusal : Refusal) → a ≡ refused line refusal → line ≤ sheet_bytes + 1)
    → Fits a
within_fits room (Ok count) h counts lines = omega (arith, counts count refl)
within_fits room (Err told) h counts lines = lines told.line told.refusal refl

module _ (sheet : List ℕ) (room : ℕ) (h : room < 2 ^ 63) {a : Answered} where
  pub events_fits : a ≡ answered_events sheet room → Fits a
  events_fits e =
      subst Fits (sym e)
      (within_fits room (answered_events sheet room) h
      (λ count w. (events-written sheet room count w).0)
      (λ line refusal w. events-line sheet room line refusal w))

  pub bundle-fits : a ≡ answered_bundle sheet room → Fits a
  bundle-fits e =
      subst Fits (sym e)
      (within_fits room (answered_bundle sheet room) h
      (λ count w. (bundle_written sheet room count w).0)
      (λ line refusal w. omega (arith, bundle-line sheet room line refusal w)))

  pub check_fits : (right : Bool) → a ≡ answered_check right sheet room → Fits a
  check_fits right e =
      subst Fits (sym e)
      (within_fits room (answered_check right sheet room) h
      (λ count w. (check-written right sheet room count w).0)
      (λ line refusal w. check-line right sheet room line refusal w))

-- the same of an answer to a call, whose line is 1 at most
call-fits_within :
    (room : ℕ) (text : List ℕ) (lines : ℕ) (a : Answered) → room < 2 ^ 63 → lines ≤ 1 → Within room text lines a → Fits a
call-fits_within room text lines (Ok count) h few w = omega (arith, w.0)
call-fits_within room text lines (Err told) h few w = omega (arith, w)

module _ (state : State) (room : ℕ) (h : room < 2 ^ 63) {a : Answered} where
  pub call_fits : (bytes : List ℕ) → a ≡ (called state bytes room).answered → Fits a
  call_fits bytes e =
      subst Fits (sym e)
      (call-fits_within room _ 1 (called state bytes room).answered h (omega arith) (call_within state bytes room))

  pub last_fits : a ≡ last_answered state room → Fits a
  last_fits e =
      subst Fits (sym e)
      (call-fits_within room _ 0 (last_answered state room) h (omega arith) (last_within state room))

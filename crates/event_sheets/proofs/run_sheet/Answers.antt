-- `event_sheets::run_sheet`: a sheet that is too long has no run; the list of every other is long enough. Assumes nothing.
use Rattle.event_sheets.specs.RunningLaws.{run_full, run_within}
use Rattle.event_sheets.proofs.run_sheet.Goals as goal

-- a pair as the two clauses
both : {A B : Type 0} → A × B → record { value : A; out_after : B }
both w = record { value = w.0; out_after = w.1 }

pub returns-then-sheet-gt-SHEET_BYTES : goal.returns-then-sheet-gt-SHEET_BYTES
returns-then-sheet-gt-SHEET_BYTES c = both (
    run_full _ _ _ c.if-sheet-gt-SHEET_BYTES.true
    )

pub returns-then-sheet-le-SMALL_SHEET : goal.returns-then-sheet-le-SMALL_SHEET
returns-then-sheet-le-SMALL_SHEET c = both (
    run_within _ _ _ c.if-sheet-gt-SHEET_BYTES.false c.run_lines.ensures.value c.run_lines.ensures.out_after
    )

pub returns-then-sheet-le-SHORT_SHEET : goal.returns-then-sheet-le-SHORT_SHEET
returns-then-sheet-le-SHORT_SHEET c = both (
    run_within _ _ _ c.if-sheet-gt-SHEET_BYTES.false c.run_lines-then-sheet-le-SHORT_SHEET.ensures.value c.run_lines-then-sheet-le-SHORT_SHEET.ensures.out_after
    )

pub returns : goal.returns
returns c = both (
    run_within _ _ _ c.if-sheet-gt-SHEET_BYTES.false c.run_lines-2.ensures.value c.run_lines-2.ensures.out_after
    )

-- `check_sheets::answer`: the length first, then the lines, the room last; each way of the code is a case of the definition.
-- Assumes nothing.
use Rattle.std.proofs.lemmas.Result.{err_from_is_err_and}
use Rattle.check_sheets.specs.AnswerLaws.{sheet_full, sheet-refused, sheet-judged}
use Rattle.check_sheets.specs.TellsLaws.{by-verdict}
use Rattle.check_sheets.proofs.answer.Goals as goal

pub returns-then-sheet-gt-SHEET_BYTES : goal.returns-then-sheet-gt-SHEET_BYTES
returns-then-sheet-gt-SHEET_BYTES c = by-verdict _ (sheet_full _ _ _ c.if-sheet-gt-SHEET_BYTES.true)

pub returns-in_err-right : goal.returns-in_err-right
returns-in_err-right c =
    let p = err_from_is_err_and c.from_residual.result c.from_residual.ensures.1 in
    by-verdict _ (rw (p.1, p.2) (sheet-refused _ _ c.if-sheet-gt-SHEET_BYTES.false c.in_err-right.ensures))

pub returns : goal.returns
returns c =
    by-verdict _
    (sheet-judged _ _
    c.if-sheet-gt-SHEET_BYTES.false
    c.in_ok-right.ensures
    c.write_verdict.ensures.value
    c.write_verdict.ensures.out_after)

-- `check_sheets::write_verdict`: the word is written where it has room. Assumes nothing.
use Rattle.check_sheets.specs.AnswerLaws.{word-refused, word-written}
use Rattle.check_sheets.proofs.write_verdict.Goals as goal

-- a pair as the two clauses
both : {A B : Type 0} → A × B → record { value : A; out_after : B }
both w = record { value = w.0; out_after = w.1 }

pub returns-then-out-lt-VERDICT_BYTES : goal.returns-then-out-lt-VERDICT_BYTES
returns-then-out-lt-VERDICT_BYTES c = both (word-refused _ _ c.if-out-lt-VERDICT_BYTES.true)

pub returns : goal.returns
returns c = both (word-written _ _ c.if-out-lt-VERDICT_BYTES.false c.put_verdict.ensures)

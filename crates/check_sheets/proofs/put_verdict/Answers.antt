-- `check_sheets::put_verdict`: the word of the verdict is put. Assumes nothing.
use Rattle.check_sheets.proofs.put_verdict.Goals as goal

pub returns-then-right : goal.returns-then-right
returns-then-right c = rw c.if-right.true c.put_word.ensures

pub returns : goal.returns
returns c = rw c.if-right.false c.put_word-2.ensures

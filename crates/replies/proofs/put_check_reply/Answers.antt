-- `replies::put_check_reply`: what is put of the answer is the reply. Assumes nothing.
use Rattle.check_sheets.specs.TellsLaws.{by-verdict_so}
use Rattle.replies.specs.RepliesLaws.{check_printable, check_put}
use Rattle.replies.proofs.put_check_reply.Goals as goal

pub put_told-requires : goal.put_told-requires
put_told-requires c =
    let a = c.args in
    check_printable a.sheet.now a.out.now c.answer-answered.ensures.right c.answer-answered.ensures.holds.0

pub returns : goal.returns
returns c =
    let a = c.args in
    by-verdict_so
    c.answer-answered.ensures
    (λ right by. check_put a.sheet.now a.out.now right by.0 by.1 c.put_told.ensures)

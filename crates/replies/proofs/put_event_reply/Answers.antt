-- `replies::put_event_reply`: what is put of the answer is the reply. Assumes nothing.
use Rattle.replies.specs.RepliesLaws.{event_printable, event_put}
use Rattle.replies.proofs.put_event_reply.Goals as goal

pub put_told-requires : goal.put_told-requires
put_told-requires c =
    let a = c.args in
    event_printable a.sheet.now a.out.now c.answer-answered.ensures.value

pub returns : goal.returns
returns c =
    let a = c.args in
    event_put a.sheet.now a.out.now c.answer-answered.ensures.value c.answer-answered.ensures.out_after c.put_told.ensures

-- `replies::put_bundle_reply`: what is put of the answer is the reply. Assumes nothing.
use Rattle.replies.specs.RepliesLaws.{bundle_printable, bundle-put}
use Rattle.replies.proofs.put_bundle_reply.Goals as goal

pub put_told-requires : goal.put_told-requires
put_told-requires c =
    let a = c.args in
    bundle_printable a.bundle.now a.out.now c.answer-answered.ensures.value

pub returns : goal.returns
returns c =
    let a = c.args in
    bundle-put a.bundle.now a.out.now c.answer-answered.ensures.value c.answer-answered.ensures.out_after c.put_told.ensures

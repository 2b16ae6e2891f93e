-- `event_calls::step_bytes`: bytes without a line feed, bytes behind it, or a line. Assumes nothing.
use Rattle.event_calls.specs.CallLaws.{line-fits, bytes-open, bytes_more, bytes-line}
use Rattle.event_calls.proofs.step_bytes.Goals as goal

pub returns-then-bytes-end : goal.returns-then-bytes-end
returns-then-bytes-end c = bytes-open _ _ c.end_of-end.ensures c.if-bytes-end.true c.malformed.ensures

pub returns-then-end-bytes : goal.returns-then-end-bytes
returns-then-end-bytes c = bytes_more _ _ c.end_of-end.ensures c.if-end-bytes.true c.malformed-then-end-bytes.ensures

pub step_line-requires : goal.step_line-requires
step_line-requires c =
    line-fits c.args.bytes.now c.end_of-end.ensures c.part_before.ensures c.requires

pub returns : goal.returns
returns c =
    bytes-line _ _
    c.end_of-end.ensures
    c.if-bytes-end.false
    c.if-end-bytes.false
    c.part_before.ensures
    c.step_line.ensures

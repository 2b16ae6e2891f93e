-- `event_calls::step_line`: either list has room for the entries of the line. Assumes nothing.
use native.Mathlib.Omega.{arith}
use Rattle.event_lines.specs.EventLinesLaws.{list_le}
use Rattle.event_calls.proofs.step_line.Goals as goal

pub step_read-requires : goal.step_read-requires
step_read-requires c = omega (arith, list_le c.args.line.now, c.if-line-le-SHORT_LINE.true)

pub returns-then-line-le-SHORT_LINE : goal.returns-then-line-le-SHORT_LINE
returns-then-line-le-SHORT_LINE c = c.step_read.ensures

pub step_read-requires-2 : goal.step_read-requires-2
step_read-requires-2 c = omega (arith, list_le c.args.line.now, c.requires)

pub returns : goal.returns
returns c = c.step_read-2.ensures

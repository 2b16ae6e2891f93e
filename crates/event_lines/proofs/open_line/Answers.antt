-- `event_lines::open_line`: the three numbers make the event. Assumes nothing.
use Rattle.std.proofs.Common.{ap, ◌∙◌}
use Rattle.event_lines.specs.Reading.{with_three}
use Rattle.event_lines.proofs.open_line.Goals as goal

pub returns : goal.returns
returns c = c.alone.ensures ∙ ap with_three c.in_ok-start.ensures

-- `event_sheets::carry_line`: a line without form changes nothing, any other is carried out with the entries that were read.
-- Assumes nothing.
use mathlib.Core.Path.{ap, ◌∙◌}
use lib.ListN.{length}
use Rattle.printing.specs.PrintingLaws.{printed-length}
use Rattle.event_sheets.specs.RunningLaws.{line-malformed, line_said}
use Rattle.event_sheets.proofs.carry_line.Goals as goal

pub returns-in-None : goal.returns-in-None
returns-in-None c = line-malformed _ _ c.read_line.ensures.value c.in-None.is c.malformed.ensures

pub shape_of-list-in-Some : goal.shape_of-list-in-Some
shape_of-list-in-Some c = ap length c.read_line.ensures.list_after ∙ printed-length _ _ _

pub returns-in-Some : goal.returns-in-Some
returns-in-Some c = line_said _ _ _ c.read_line.ensures.value c.in-Some.is c.read_line.ensures.list_after c.entries_of.ensures c.requires c.act.ensures

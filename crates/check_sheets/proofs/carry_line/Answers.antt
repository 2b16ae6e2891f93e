-- `check_sheets::carry_line`: a line without form changes nothing, any other is judged and carried out. Assumes nothing.
use mathlib.Core.Path.{ap}
use Rattle.steps.specs.declared.Judged.{Judged}
use Rattle.symbolic.specs.Symbolic.{taking}
use Rattle.check_sheets.specs.RunningLaws.{line-malformed, line_said}
use Rattle.check_sheets.proofs.carry_line.Goals as goal

pub returns-in-None : goal.returns-in-None
returns-in-None c =
    line-malformed _ _ _
    c.read_line.ensures
    c.in-None.is
    (ap (λ (j : Judged). taking j.order c.args.symbols.now j.refusal) c.malformed.ensures)

pub returns-in-Some : goal.returns-in-Some
returns-in-Some c =
    line_said _ _ _
    c.read_line.ensures
    c.in-Some.is
    c.take_line.ensures

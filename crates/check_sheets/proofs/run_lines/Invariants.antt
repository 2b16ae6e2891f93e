-- `check_sheets::run_lines`: what is left of the sheet, run from here on, makes the run of the whole sheet. The measure is the
-- length of what is left. Assumes nothing.
use lib.ListN.{length}
use Rattle.check_sheets.specs.Running.{Going}
use Rattle.check_sheets.proofs.run_lines.Given as goal

abbrev pub invariant-loop-end : goal.invariant-loop-end
invariant-loop-end l =
    Going l.sheet l.order l.symbols l.rest l.end l.number

abbrev pub decreases-loop-end : goal.decreases-loop-end
decreases-loop-end l =
    length l.rest

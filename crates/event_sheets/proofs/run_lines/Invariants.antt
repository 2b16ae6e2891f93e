-- `event_sheets::run_lines`: what is left of the sheet, run from here on, makes the run of the whole sheet. The measure is the
-- length of what is left. Assumes nothing.
use Prim.Native.Nat.{◌≤◌}
use mathlib.Core.Path.{◌≡◌}
use lib.ListN.{length}
use Rattle.event_sheets.specs.Running.{Going}
use Rattle.event_sheets.proofs.run_lines.Given as goal

abbrev pub invariant-loop-end : goal.invariant-loop-end
invariant-loop-end l =
    Going l.sheet l.initial.out l.from l.state l.rest l.end l.number l.length l.at l.out
    × (length l.rest ≤ length l.initial.list)
    × (length l.list ≡ length l.initial.list)

abbrev pub decreases-loop-end : goal.decreases-loop-end
decreases-loop-end l =
    length l.rest

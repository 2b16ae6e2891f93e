-- `event_lines::read_list`: the entries that are left, behind those that were put, make the whole list, and have a form
-- exactly if the whole has. The measure is what is left of the line. Assumes nothing.
use Prim.Native.Nat.{◌+◌, ◌≤◌}
use mathlib.Core.Path.{◌≡◌}
use lib.ListN.{length}
use Rattle.fields.specs.Fields.{fields_left}
use Rattle.printing.specs.Printing.{printed}
use Rattle.event_lines.specs.LineForms.{all_entries, leading}
use Rattle.event_lines.proofs.read_list.Given as goal

abbrev pub invariant-loop-left : goal.invariant-loop-left
invariant-loop-left l =
    (l.count + length l.left ≤ length l.rest)
    × (all_entries l.entries (fields_left l.mark l.rest) ≡ all_entries l.entries (fields_left l.mark l.left))
    × (length (fields_left l.mark l.rest) ≡ l.count + length (fields_left l.mark l.left))
    × (printed l.list l.count (leading l.entries (fields_left l.mark l.left)) ≡ printed l.initial.list 0 (leading l.entries (fields_left l.mark l.rest)))
    × (length l.list ≡ length l.initial.list)

abbrev pub decreases-loop-left : goal.decreases-loop-left
decreases-loop-left l = length l.left

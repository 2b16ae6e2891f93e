-- `fields::end_of_field`: the bytes before the mark, found behind the first byte. Assumes nothing.
use native.Mathlib.Omega.{arith}
use lib.ListN.{drop, length-drop}
use Rattle.split.specs.SplitLaws.{before_le}
use Rattle.fields.specs.Fields.{field_end}
use Rattle.fields.proofs.end_of_field.Goals as goal

pub overflow_add-result : goal.overflow_add-result
overflow_add-result c =
    let a = c.args in
    let fields = drop 1 a.rest.now in
    let found = simp c.part_after-fields.ensures at c.end_of.ensures in
    omega (arith, before_le a.mark fields, length-drop 1 a.rest.now)

pub returns : goal.returns
unfolding field_end
returns c = simp (c.end_of.ensures, c.part_after-fields.ensures)

-- `fields::field`: the part up to its end, without the first byte. Assumes nothing.
use Rattle.fields.specs.FieldsLaws.{field_part}
use Rattle.fields.proofs.field.Goals as goal

pub returns : goal.returns
returns c =
    let a = c.args in
    simp (c.part_after.ensures, c.part_before-marked.ensures) (field_part a.end a.rest.now)

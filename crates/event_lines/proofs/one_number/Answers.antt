-- `event_lines::one_number`: the field that ends with the line, or one that does not. Assumes nothing.
use mathlib.Core.Path.{sym}
use native.Mathlib.Omega.{arith}
use Rattle.event_lines.specs.ReadLaws.{one_more, one_last}
use Rattle.event_lines.proofs.one_number.Goals as goal

pub returns-then-end-rest : goal.returns-then-end-rest
returns-then-end-rest c =
    let rest = c.args.rest.now in
    sym (one_more rest (omega (arith, c.end_of_field-end.ensures)))

pub returns : goal.returns
returns c =
    let rest = c.args.rest.now in
    let ends = c.end_of_field-end.ensures in
    simp (c.read.ensures, c.field.ensures, ends) (sym (one_last rest (omega arith)))

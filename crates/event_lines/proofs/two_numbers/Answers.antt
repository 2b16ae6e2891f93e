-- `event_lines::two_numbers`: the next field and the one behind it. Assumes nothing.
use Rattle.std.proofs.Common.{sym, ◌∙◌}
use Rattle.event_lines.specs.ReadLaws.{two_step}
use Rattle.event_lines.proofs.two_numbers.Goals as goal

pub returns-in_err-first : goal.returns-in_err-first
returns-in_err-first c =
    let none = simp (c.field.ensures, c.end_of_field-end.ensures) at c.in_err-first.ensures in
    c.from_residual.ensures ∙ sym (two_step c.args.rest.now ∙ simp (← none))

pub returns-in_err-second : goal.returns-in_err-second
returns-in_err-second c =
    let first = simp (c.field.ensures, c.end_of_field-end.ensures) at c.in_ok-first.ensures in
    let none = simp (c.rest_after.ensures, c.end_of_field-end.ensures) at c.in_err-second.ensures in
    c.from_residual-in_err-second.ensures ∙ sym (two_step c.args.rest.now ∙ simp (← first, ← none))

pub returns : goal.returns
returns c =
    let first = simp (c.field.ensures, c.end_of_field-end.ensures) at c.in_ok-first.ensures in
    let second = simp (c.rest_after.ensures, c.end_of_field-end.ensures) at c.in_ok-second.ensures in
    sym (two_step c.args.rest.now ∙ simp (← first, ← second))

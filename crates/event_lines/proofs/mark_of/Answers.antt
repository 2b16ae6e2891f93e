-- `event_lines::mark_of`: each way of the code is a case of the definition. Assumes nothing.
use Rattle.std.proofs.Common.{◌∙◌}
use borrow.Author.Tests.{ne_eqb}
use Rattle.event_lines.specs.Reading.{mark_of}
use Rattle.event_lines.proofs.mark_of.Goals as goal

pub returns-in_err-one_number-in-17 : goal.returns-in_err-one_number-in-17
unfolding mark_of
returns-in_err-one_number-in-17 c =
    let none = c.in_err-one_number-in-17.ensures in c.from_residual.ensures ∙ simp (c.in-17.is, ← none)

pub returns-in_ok-one_number-in-17 : goal.returns-in_ok-one_number-in-17
unfolding mark_of
returns-in_ok-one_number-in-17 c =
    let v = c.in_ok-one_number-in-17.ensures in c.alone.ensures ∙ simp (c.in-17.is, ← v)

pub returns-in-18 : goal.returns-in-18
unfolding mark_of
returns-in-18 c = simp (c.in-18.is, c.anon_line.ensures)

pub returns-in_err-one_number-in-19 : goal.returns-in_err-one_number-in-19
unfolding mark_of
returns-in_err-one_number-in-19 c =
    let none = c.in_err-one_number-in-19.ensures in
    c.from_residual-in_err-one_number-in-19.ensures ∙ simp (c.in-19.is, ← none)

pub returns-in_ok-one_number-in-19 : goal.returns-in_ok-one_number-in-19
unfolding mark_of
returns-in_ok-one_number-in-19 c =
    let cell = c.in_ok-one_number-in-19.ensures in c.alone-in-19.ensures ∙ simp (c.in-19.is, ← cell)

pub returns-in_default : goal.returns-in_default
unfolding mark_of
returns-in_default c =
    simp (ne_eqb _ _ c.in_default.in_default-own.rest.1, ne_eqb _ _ c.in_default.in_default-own.rest.0.1, ne_eqb _ _ c.in_default.in_default-own.rest.0.0.1)

-- `event_lines::one_said`: each way of the code is a case of the definition. Assumes nothing.
use borrow.Author.Tests.{ne_eqb}
use Rattle.event_lines.specs.Reading.{event_among}
use Rattle.event_lines.proofs.one_said.Goals as goal

pub returns-in-7 : goal.returns-in-7
unfolding event_among
returns-in-7 c = simp (c.in-7.is, c.alone.ensures)

pub returns-in-8 : goal.returns-in-8
unfolding event_among
returns-in-8 c = simp (c.in-8.is, c.alone-in-8.ensures)

pub returns-in-9 : goal.returns-in-9
unfolding event_among
returns-in-9 c = simp (c.in-9.is, c.alone-in-9.ensures)

pub returns-in-10 : goal.returns-in-10
unfolding event_among
returns-in-10 c = simp (c.in-10.is, c.alone-in-10.ensures)

pub returns-in-11 : goal.returns-in-11
unfolding event_among
returns-in-11 c = simp (c.in-11.is, c.alone-in-11.ensures)

pub returns-in-12 : goal.returns-in-12
unfolding event_among
returns-in-12 c = simp (c.in-12.is, c.alone-in-12.ensures)

pub returns-in_default : goal.returns-in_default
unfolding event_among
returns-in_default c =
    simp (
      ne_eqb _ _ c.in_default.in_default-own.rest.1,
      ne_eqb _ _ c.in_default.in_default-own.rest.0.1,
      ne_eqb _ _ c.in_default.in_default-own.rest.0.0.1,
      ne_eqb _ _ c.in_default.in_default-own.rest.0.0.0.1,
      ne_eqb _ _ c.in_default.in_default-own.rest.0.0.0.0.1,
      ne_eqb _ _ c.in_default.in_default-own.rest.0.0.0.0.0.1,
    )

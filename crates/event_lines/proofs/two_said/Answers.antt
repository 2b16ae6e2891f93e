-- `event_lines::two_said_lem`: each way of the code is a case of the definition. Assumes nothing.
use borrow.Author.Tests.{ne_eqb}
use Rattle.event_lines.specs.Reading.{event_among}
use Rattle.event_lines.proofs.two_said.Goals as goal

pub returns-in-13 : goal.returns-in-13
unfolding event_among
returns-in-13 c = simp (c.in-13.is, c.alone.ensures)

pub returns-in-14 : goal.returns-in-14
unfolding event_among
returns-in-14 c = simp (c.in-14.is, c.alone-in-14.ensures)

pub returns-in-15 : goal.returns-in-15
unfolding event_among
returns-in-15 c = simp (c.in-15.is, c.alone-in-15.ensures)

pub returns-in_default : goal.returns-in_default
unfolding event_among
returns-in_default c =
    simp (
      ne_eqb _ _ c.in_default.in_default-own.rest.1,
      ne_eqb _ _ c.in_default.in_default-own.rest.0.1,
      ne_eqb _ _ c.in_default.in_default-own.rest.0.0.1,
    )

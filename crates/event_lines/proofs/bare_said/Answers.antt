-- `event_lines::bare_said`: each way of the code is a case of the definition. Assumes nothing.
use borrow.Author.Tests.{ne_eqb}
use Rattle.event_lines.specs.Reading.{event_among}
use Rattle.event_lines.proofs.bare_said.Goals as goal

pub returns-in-1 : goal.returns-in-1
unfolding event_among
returns-in-1 c = simp (c.in-1.is, c.alone.ensures)

pub returns-in-2 : goal.returns-in-2
unfolding event_among
returns-in-2 c = simp (c.in-2.is, c.alone-in-2.ensures)

pub returns-in-3 : goal.returns-in-3
unfolding event_among
returns-in-3 c = simp (c.in-3.is, c.alone-in-3.ensures)

pub returns-in-4 : goal.returns-in-4
unfolding event_among
returns-in-4 c = simp (c.in-4.is, c.alone-in-4.ensures)

pub returns-in-5 : goal.returns-in-5
unfolding event_among
returns-in-5 c = simp (c.in-5.is, c.alone-in-5.ensures)

pub returns-in-6 : goal.returns-in-6
unfolding event_among
returns-in-6 c = simp (c.in-6.is, c.alone-in-6.ensures)

pub returns-in_default : goal.returns-in_default
unfolding event_among
returns-in_default c =
    simp (
      ne_eqb _ _ c.in_default.in_default-own.rest.1,
      ne_eqb _ _ c.in_default.in_default-own.rest.0.1,
      ne_eqb _ _ c.in_default.in_default-own.rest.0.0.1,
      ne_eqb _ _ c.in_default.in_default-own.rest.0.0.0.1,
      ne_eqb _ _ c.in_default.in_default-own.rest.0.0.0.0.1,
      ne_eqb _ _ c.in_default.in_default-own.rest.0.0.0.0.0.1,
    )

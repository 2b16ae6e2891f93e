-- `events::entry_fits`: each way of the code is a case of the definition. Assumes nothing.
use borrow.Author.Tests.{eq-eqb, ne_eqb}
use Rattle.events.proofs.entry_fits.Goals as goal

pub returns-in-Uses : goal.returns-in-Uses
returns-in-Uses c = simp (c.in-Uses.is, c.is_use.ensures)

pub returns-then-n-eq-NO_VARIABLE : goal.returns-then-n-eq-NO_VARIABLE
returns-then-n-eq-NO_VARIABLE c = simp (c.in-Arguments.is, eq-eqb _ _ c.if-n-eq-NO_VARIABLE.true)

pub returns-else-n-eq-NO_VARIABLE : goal.returns-else-n-eq-NO_VARIABLE
returns-else-n-eq-NO_VARIABLE c = simp (c.in-Arguments.is, ne_eqb _ _ c.if-n-eq-NO_VARIABLE.false)

pub returns-in-Variables : goal.returns-in-Variables
returns-in-Variables c = simp c.in-Variables.is

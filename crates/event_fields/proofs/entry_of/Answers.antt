-- `event_fields::entry_of`: each way of the code is a case of the definition. Assumes nothing.
use Rattle.event_fields.proofs.entry_of.Goals as goal

pub returns-in-Uses : goal.returns-in-Uses
returns-in-Uses c = simp (c.in-Uses.is, c.use_of.ensures)

pub returns-in-Arguments : goal.returns-in-Arguments
returns-in-Arguments c = simp (c.in-Arguments.is, c.argument_of.ensures)

pub returns-in-Variables : goal.returns-in-Variables
returns-in-Variables c = simp (c.in-Variables.is, c.read.ensures)

-- `event_fields::code_in`: each way of the code is a case of the definition. Assumes nothing.
use Rattle.event_fields.proofs.code_in.Goals as goal

pub returns-in-Head : goal.returns-in-Head
returns-in-Head c = simp (c.in-Head.is, c.head_use.ensures)

pub returns-in-Mid : goal.returns-in-Mid
returns-in-Mid c = simp (c.in-Mid.is, c.mid_use.ensures)

pub returns-in-Last : goal.returns-in-Last
returns-in-Last c = simp (c.in-Last.is, c.last_use.ensures)

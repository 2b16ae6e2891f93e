-- `event_fields::variable_entry`: each way of the code is a case of the definition. Assumes nothing.
use borrow.Author.Tests.{le-ltb, lt-ltb}
use Rattle.event_fields.specs.EventFields.{variable_entry}
use Rattle.event_fields.proofs.variable_entry.Goals as goal

pub returns-then-v : goal.returns-then-v
unfolding variable_entry
returns-then-v c = simp (lt-ltb _ _ c.if-v.true)

pub returns : goal.returns
unfolding variable_entry
returns c = simp (le-ltb _ _ c.if-v.false)

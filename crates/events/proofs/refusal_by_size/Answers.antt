-- `events::refusal_by_size`: each way of the code is a case of the definition. Assumes nothing.
use Rattle.events.specs.Events.{refusal_by_size}
use Rattle.events.proofs.refusal_by_size.Goals as goal

pub returns-in-true-is_full : goal.returns-in-true-is_full
unfolding refusal_by_size
returns-in-true-is_full c = simp (← c.is_in_size.ensures, c.in-true.is, ← c.is_full.ensures, c.in-true-is_full.is)

pub returns-in-false-is_full : goal.returns-in-false-is_full
unfolding refusal_by_size
returns-in-false-is_full c = simp (← c.is_in_size.ensures, c.in-true.is, ← c.is_full.ensures, c.in-false-is_full.is)

pub returns-in-false : goal.returns-in-false
unfolding refusal_by_size
returns-in-false c = simp (← c.is_in_size.ensures, c.in-false.is)

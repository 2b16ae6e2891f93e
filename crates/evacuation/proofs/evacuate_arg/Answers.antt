-- `evacuation::evacuate_arg`: each way of the code is a case of the definition. Assumes nothing.
use borrow.Author.Tests.{eq-eqb, ne_eqb}
use Rattle.evacuation.specs.Evacuation.{evacuated, evacuated_by}
use Rattle.evacuation.proofs.evacuate_arg.Goals as goal

pub returns-then-r-counters : goal.returns-then-r-counters
unfolding evacuated evacuated_by
returns-then-r-counters c = simp (← c.alloc_in_last_goal_hint-to.ensures, c.in-Moves.is, eq-eqb _ _ c.if-r-counters.true, c.going-then-r-counters.ensures)

pub returns-in-Stays : goal.returns-in-Stays
unfolding evacuated evacuated_by
returns-in-Stays c = simp (← c.alloc_in_last_goal_hint-to.ensures, c.in-Stays.is, c.going.ensures)

pub returns-in-NoRegister : goal.returns-in-NoRegister
unfolding evacuated evacuated_by
returns-in-NoRegister c = simp (← c.alloc_in_last_goal_hint-to.ensures, c.in-NoRegister.is)

pub returns-else-r-counters : goal.returns-else-r-counters
unfolding evacuated evacuated_by
returns-else-r-counters c = simp (← c.alloc_in_last_goal_hint-to.ensures, c.in-Moves.is, ne_eqb _ _ c.if-r-counters.false, c.move_to.ensures)

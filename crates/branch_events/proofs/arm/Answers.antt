-- `branch_events::arm`: the code is the definition. Assumes nothing.
use Rattle.branch_events.specs.BranchEvents.{armed}
use Rattle.branch_events.proofs.arm.Goals as goal

pub returns : goal.returns
unfolding armed
returns c = let e = c.incr_current_branch-advanced.ensures in simp (← e.value, e.rows_after, e.sets_after, c.refusal_of.ensures)

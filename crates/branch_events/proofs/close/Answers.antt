-- `branch_events::close`: the code is the definition. Assumes nothing.
use Rattle.branch_events.specs.BranchEvents.{closed}
use Rattle.branch_events.proofs.close.Goals as goal

pub returns : goal.returns
unfolding closed
returns c = let e = c.pop_branch-popped.ensures in simp (← e.value, e.records_after, e.rows_after, e.sets_after, c.left_open.ensures)

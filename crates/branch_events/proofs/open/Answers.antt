-- `branch_events::open`: the code is the definition. Assumes nothing.
use Rattle.branch_events.specs.BranchEvents.{opened}
use Rattle.branch_events.proofs.open.Goals as goal

pub returns : goal.returns
unfolding opened
returns c = let e = c.add_branch_stack-opened.ensures in simp (← e.value, e.rows_after, e.sets_after, c.left_open.ensures)

-- `branch_events::take`: the code is the definition. Assumes nothing.
use Rattle.branch_events.specs.BranchEvents.{stock_taken}
use Rattle.branch_events.proofs.take.Goals as goal

pub returns : goal.returns
unfolding stock_taken
returns c = let e = c.add_branch-taken.ensures in simp (← e.value, e.records_after, e.rows_after, e.sets_after, c.refusal_of.ensures)

-- `mark_var::record_occurrence`: the code is the definition. Assumes nothing.
use Rattle.mark_var.proofs.record_occurrence.Goals as goal

pub returns : goal.returns
returns c = let e = c.add_branch_occurrence.ensures in (record { value = simp (← e.value, c.refusal_of.ensures); rows_after = e.rows_after; branch_sets_after = e.sets_after })

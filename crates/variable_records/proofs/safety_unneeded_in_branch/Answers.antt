-- `variable_records::safety_unneeded_in_branch`: each safety is a case of the definition. Assumes nothing.
use Rattle.variable_records.proofs.safety_unneeded_in_branch.Goals as goal

pub returns-in-LocallyUnneeded : goal.returns-in-LocallyUnneeded
returns-in-LocallyUnneeded c = simp (c.in-LocallyUnneeded.is, c.has_as_subbranch.ensures)

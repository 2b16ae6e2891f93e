-- `temp_var_data::populate_conflict_set`: the registers of the uses passed have been removed. Assumes nothing.
use mathlib.Core.Path.{◌≡◌}
use Rattle.temp_var_data.proofs.ConflictLaws.{without_first}
use Rattle.temp_var_data.proofs.populate_conflict_set.Given as goal

abbrev pub invariant-loop-code : goal.invariant-loop-code
invariant-loop-code l = l.conflict_set ≡ without_first l.use_set l.code-index

-- `valid_states::branch_fits`: the code is the definition. Assumes nothing.
use Rattle.std.proofs.Common.{ap, ◌∙◌}
use Rattle.valid_states.specs.Parts.{of_records}
use Rattle.valid_states.specs.ValidStates.{occurrences_fit}
use Rattle.valid_states.proofs.branch_fits.Goals as goal

pub returns : goal.returns
returns c = let a = c.args in c.occurrences_fit.ensures ∙ ap (occurrences_fit (of_records a.counters a.records.now)) c.load.ensures

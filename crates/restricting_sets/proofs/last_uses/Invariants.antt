-- `restricting_sets::last_uses`: the registers of the uses passed are there. Assumes nothing.
use mathlib.Core.Path.{◌≡◌}
use Rattle.temp_var_data.specs.Uses.{last_context}
use Rattle.temp_var_data.specs.GivenLaws.{given_first}
use Rattle.restricting_sets.specs.StepLaws.{is_in}
use Rattle.restricting_sets.proofs.last_uses.Given as goal

abbrev pub invariant-loop-code : goal.invariant-loop-code
invariant-loop-code l = l.registers ≡ given_first (is_in (last_context l.chunk)) l.use_set l.code-index

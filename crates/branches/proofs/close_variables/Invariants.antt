-- `branches::close_variables`: from entry i on the list makes of the records so far what the whole list makes.
-- Assumes nothing.
use mathlib.Core.Path.{◌≡◌}
use lib.ListN.{drop}
use Rattle.branches.specs.Lists.{each}
use Rattle.branches.specs.Branches.{variable_closed}
use Rattle.branches.proofs.close_variables.Given as goal

abbrev pub invariant-loop-v : goal.invariant-loop-v
invariant-loop-v l = each (variable_closed l.met) l.records (drop l.v-index l.variables) ≡ each (variable_closed l.met) l.initial.records l.variables

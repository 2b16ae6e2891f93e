-- `branches::join_variables`: from entry i on the list makes of the set so far what the whole list makes.
-- Assumes nothing.
use mathlib.Core.Path.{◌≡◌}
use lib.ListN.{drop}
use Rattle.bit_set.specs.BitSet.{inserted}
use Rattle.branches.specs.Lists.{each}
use Rattle.branches.proofs.join_variables.Given as goal

abbrev pub invariant-loop-v : goal.invariant-loop-v
invariant-loop-v l = each inserted l.joined (drop l.v-index l.variables) ≡ each inserted l.set l.variables

-- `bundles::run_clauses`: between two clauses the texts of those that are left, behind what stands so far, make the whole. The measure is
-- the length of what is left. Assumes nothing.
use lib.ListN.{length}
use Rattle.bundles.specs.Bundles.{lines_of}
use Rattle.bundles.specs.Running.{Going}
use Rattle.bundles.proofs.run_clauses.Given as goal

abbrev pub invariant-loop-rest : goal.invariant-loop-rest
invariant-loop-rest l = Going (lines_of l.bundle) l.initial.out l.rest l.length l.out

abbrev pub decreases-loop-rest : goal.decreases-loop-rest
decreases-loop-rest l = length l.rest

-- `bundles::end_of_clause`: between two lines the lines so far and those that are left make those of the clause. The measure is the
-- length of what is left. Assumes nothing.
use lib.ListN.{length}
use Rattle.bundles.specs.Running.{Seeking}
use Rattle.bundles.proofs.end_of_clause.Given as goal

abbrev pub invariant-loop-end : goal.invariant-loop-end
invariant-loop-end l = Seeking l.rest l.left l.bytes l.end

abbrev pub decreases-loop-end : goal.decreases-loop-end
decreases-loop-end l = length l.left

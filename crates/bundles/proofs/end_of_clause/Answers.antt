-- `bundles::end_of_clause`: between two lines the lines so far and those that are left make those of the clause. The measure is the
-- length of what is left. Assumes nothing.
use mathlib.Core.Path.{ap, sym, ◌∙◌}
use native.Mathlib.Omega.{arith}
use lib.ListN.{length}
use Rattle.split.specs.SplitLaws.{drop_shorter}
use Rattle.bundles.specs.RunningLaws.{seeking_first, seeking_last, seeking_found, seeking_on}
use Rattle.bundles.proofs.end_of_clause.Goals as goal

pub loop-end-init : goal.loop-end-init
loop-end-init c = seeking_first _ c.end_of-end.ensures

pub returns-then-is_clause : goal.returns-then-is_clause
returns-then-is_clause c = seeking_found c.loop-end.invariant c.loop-end-test.true c.part_before.ensures (sym c.is_clause.ensures ∙ c.if-is_clause.true)

pub overflow_add-bytes : goal.overflow_add-bytes
overflow_add-bytes c = omega (arith, c.loop-end.invariant.within, c.loop-end-test.true)

pub overflow_add-bytes-in-loop-end : goal.overflow_add-bytes-in-loop-end
overflow_add-bytes-in-loop-end c = omega (arith, c.loop-end.invariant.within, c.loop-end-test.true)

pub loop-end-smaller : goal.loop-end-smaller
loop-end-smaller c = omega (arith, ap length c.part_after-next.ensures, drop_shorter c.loop-end.end c.loop-end.left.now c.loop-end-test.true)

pub loop-end-preserved : goal.loop-end-preserved
loop-end-preserved c = seeking_on c.loop-end.invariant c.loop-end-test.true c.part_before.ensures (sym c.is_clause.ensures ∙ c.if-is_clause.false) c.part_after-next.ensures c.end_of-end-in-loop-end.ensures

pub returns : goal.returns
returns c = seeking_last c.loop-end.invariant c.loop-end-test.false

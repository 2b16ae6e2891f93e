-- `check_sheets::run_lines`: what is left of the sheet, run from here on, makes the run of the whole sheet. The measure is the
-- length of what is left. Assumes nothing.
use mathlib.Core.Path.{ap, refl}
use native.Mathlib.Omega.{arith}
use lib.ListN.{length}
use Rattle.split.specs.SplitLaws.{drop_shorter}
use Rattle.symbolic.specs.TablesLaws.{begun_lem}
use Rattle.check_sheets.specs.RunningLaws.{going-first, going-last, going-refused, going_on_lem}
use Rattle.check_sheets.proofs.run_lines.Goals as goal

pub loop-end-init : goal.loop-end-init
loop-end-init c =
    going-first
    _
    c.fresh_order-order.ensures
    (begun_lem c.nothing-symbols.ensures c.fresh_places-symbols.ensures)
    c.end_of-end.ensures

pub returns-in-Some : goal.returns-in-Some
returns-in-Some c =
    going-refused
    c.loop-end.invariant
    c.loop-end-test.true
    c.part_before.ensures
    c.carry_line-judged.ensures
    c.in-Some.is
    refl

pub overflow_add-number : goal.overflow_add-number
overflow_add-number c = omega (arith, c.loop-end.invariant.lines, c.requires)

pub loop-end-smaller : goal.loop-end-smaller
loop-end-smaller c =
    let l = c.loop-end in
    omega (arith, ap length c.part_after-next.ensures, drop_shorter l.end l.rest.now c.loop-end-test.true)

pub loop-end-preserved : goal.loop-end-preserved
loop-end-preserved c =
    going_on_lem
    c.loop-end.invariant
    c.loop-end-test.true
    c.part_before.ensures
    c.carry_line-judged.ensures
    c.in_default.is
    c.part_after-next.ensures
    c.end_of-end-in-loop-end.ensures

pub returns : goal.returns
returns c = going-last c.loop-end.invariant c.loop-end-test.false c.finish.ensures

-- `symbolic::take_line`: each way of the code is a case of the definition. Assumes nothing.
use Rattle.std.proofs.Common.{ap}
use Rattle.refusals.specs.Refusals.{is_refused}
use Rattle.symbolic.specs.TablesLaws.{judged_few, judged-fits, taken_late, taken_refused, taken-carried}
use Rattle.symbolic.proofs.take_line.Goals as goal

pub returns-then-order : goal.returns-then-order
returns-then-order c = taken_late _ _ _ c.if-order.true

pub returns-in-Some : goal.returns-in-Some
returns-in-Some c = taken_refused _ _ _ c.judge-judged.ensures c.if-order.false (ap is_refused c.in-Some.is)

pub carry-requires : goal.carry-requires
carry-requires c =
    let judges = c.judge-judged.ensures in
    (judged_few _ _ judges c.if-order.false, judged-fits _ _ judges c.in-None.is)

pub returns-in-None : goal.returns-in-None
returns-in-None c = taken-carried _ _ _ c.judge-judged.ensures c.if-order.false c.in-None.is c.carry.ensures

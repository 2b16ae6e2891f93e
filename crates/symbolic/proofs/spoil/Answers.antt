-- `symbolic::spoil`: the registers passed are spoilt. Assumes nothing.
use Rattle.std.proofs.Common.{◌≡◌, ◌+◌, ◌-◌, arith}
use Rattle.symbolic.specs.TablesLaws.{spoilt-none, spoilt_more}
use Rattle.symbolic.proofs.spoil.Goals as goal

pub loop-r-init : goal.loop-r-init
loop-r-init c = spoilt-none _ _

pub loop-r-preserved : goal.loop-r-preserved
loop-r-preserved c =
    let l = c.loop-r in
    let next : l.r + 1 - 1 ≡ l.r = omega arith in
    rw next (spoilt_more _ _ l.r (omega arith) l.invariant c.call_name.ensures c.put.ensures)

-- `symbolic::claim`: what is left of the arguments gives, from here on, what all of them give from the start. The measure is how
-- many cells are left. Assumes nothing.
use Rattle.std.proofs.Common.{arith, refl, sym, ◌∙◌}
use Rattle.symbolic.specs.TablesLaws.{claimed_more, claimed-end}
use Rattle.symbolic.proofs.claim.Goals as goal

pub loop-i-init : goal.loop-i-init
loop-i-init c = (omega arith, refl)

pub loop-i-preserved : goal.loop-i-preserved
loop-i-preserved c =
    let l = c.loop-i in
    let a = c.args in
    let more = claimed_more a.places.now a.arguments.now l.i l.claims c.loop-i-test.true c.held.ensures c.push.ensures in
    (omega arith, more ∙ l.invariant.1)

pub returns : goal.returns
returns c =
    let l = c.loop-i in
    let a = c.args in
    sym (claimed-end a.places.now a.arguments.now l.i l.claims c.loop-i-test.false) ∙ l.invariant.1

-- `branches::pend_members`: from v on the members make of the records so far what all members make. Assumes nothing.
use mathlib.Core.Path.{refl}
use Rattle.std.specs.Prelude.{◌<◌}
use Rattle.std.proofs.Common.{arith}
use Rattle.sizes.specs.Sizes.{variables}
use Rattle.branches.specs.ListLaws.{each_member, each_member_end}
use Rattle.branches.specs.Branches.{variable_pended, pended_if_member}
use Rattle.branches.proofs.pend_members.Goals as goal

pub loop-v-init : goal.loop-v-init
loop-v-init c = refl

pub loop-v-preserved : goal.loop-v-preserved
unfolding pended_if_member
loop-v-preserved c =
    let l = c.loop-v in
    let below : l.v < variables = omega (arith, c.loop-v-test.true, c.past_last-v-end.ensures.within) in
    each_member variable_pended l.v variables _ _ l.invariant below c.pend_member.ensures

pub returns : goal.returns
returns c =
    let l = c.loop-v in
    each_member_end variable_pended l.v variables _ l.invariant (c.past_last-v-end.ensures.none_from l.v c.loop-v-test.false)

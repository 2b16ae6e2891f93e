-- `resets::reset_at_head`: from argument i on the list makes of what is so far what the whole list makes. Assumes nothing.
use Prim.Native.Nat.{◌+◌, ◌<◌}
use mathlib.Core.Path.{refl, ◌∙◌}
use native.Mathlib.Omega.{arith}
use Rattle.std.proofs.Common.{ap, length-take}
use Rattle.std.proofs.Math.Seq.{get_or-take}
use Rattle.resets.specs.Resets.{heading, argument_placed, head_reset}
use Rattle.resets.specs.ResetsLaws.{head_few, head_within, placed_entry, placed_end}
use Rattle.resets.proofs.reset_at_head.Goals as goal

pub overflow_cast-count : goal.overflow_cast-count
overflow_cast-count c = omega (arith, c.argument_count-count.ensures, head_few c.args.arguments.now)

pub overflow_cast-headed : goal.overflow_cast-headed
overflow_cast-headed c = omega (arith, c.argument_count-count.ensures, head_few c.args.arguments.now)

pub slice_bounds-v-items-end : goal.slice_bounds-v-items-end
slice_bounds-v-items-end c =
    let a = c.args in
    omega (arith, c.argument_count-count.ensures, head_within a.arguments.now, length-take c.argument_count-count.result a.arguments.now)

pub loop-i-init : goal.loop-i-init
loop-i-init c =
    let a = c.args in
    let e = c.argument_count-count.ensures in
    (omega (arith, e, head_few a.arguments.now), omega (arith, e, head_within a.arguments.now), refl)

pub loop-i-preserved : goal.loop-i-preserved
loop-i-preserved c =
    let a = c.args in
    let l = c.loop-i in
    let e = c.argument_count-count.ensures in
    let n = c.argument_count-count.result in
    let h : l.i < n = omega (arith, c.loop-i-test.true, length-take n a.arguments.now) in
    let entry = get_or-take n a.arguments.now l.i 0 h in
    (l.invariant.0, l.invariant.1, placed_entry a.arguments.now l.i (l.i + 1) _ l.invariant.2 (omega (arith, e, h)) (c.place_argument-headed.ensures ∙ ap (argument_placed (heading l.records l.mappings l.headed) (l.i + 1)) entry))

pub returns : goal.returns
unfolding head_reset
returns c =
    let a = c.args in
    let l = c.loop-i in
    let e = c.argument_count-count.ensures in
    placed_end a.arguments.now l.i (l.i + 1) l.invariant.2 (omega (arith, e, c.loop-i-test.false, length-take c.argument_count-count.result a.arguments.now))
    ∙ simp (c.reset_arg.ensures, e)

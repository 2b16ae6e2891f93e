-- `allocation::pop_freed`: what is popped of those left is what is popped of all. Assumes nothing.
use mathlib.Core.Path.{◌≡◌, sym, ap, ◌∙◌}
use native.Mathlib.Omega.{arith}
use Rattle.allocation.specs.Allocation.{popped}
use Rattle.allocation.specs.AllocationLaws.{popped-taken, popped_passed, popped-none}
use Rattle.allocation.proofs.pop_freed.Goals as goal

pub returns-then-not-is_in_use : goal.returns-then-not-is_in_use
returns-then-not-is_in_use c =
    let a = c.args in
    let l = c.loop-left in
    let unused = sym c.is_in_use.ensures ∙ c.if-not-is_in_use.true in
    sym (l.invariant ∙ popped-taken a.counters a.list.now l.left c.loop-left-test.true unused)

pub loop-left-preserved : goal.loop-left-preserved
loop-left-preserved c =
    let a = c.args in
    let l = c.loop-left in
    let used = sym c.is_in_use.ensures ∙ c.if-not-is_in_use.false in
    l.invariant ∙ popped_passed a.counters a.list.now l.left c.loop-left-test.true used

pub returns : goal.returns
returns c =
    let a = c.args in
    let l = c.loop-left in
    let none : l.left ≡ 0 = omega arith in
    sym (l.invariant ∙ ap (popped a.counters a.list.now) none ∙ popped-none a.counters a.list.now 0 (omega arith))

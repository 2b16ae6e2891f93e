-- `classes::all_same`: the pairs that are left have one label each exactly if all have. The measure is what is left of the pairs.
-- Assumes nothing.
use mathlib.Core.Path.{sym, ◌∙◌}
use native.Mathlib.Omega.{arith}
use Rattle.classes.specs.ClassesLaws.{same_apart, same_on, same-done}
use Rattle.classes.proofs.all_same.Goals as goal

pub returns-then-label_of : goal.returns-then-label_of
returns-then-label_of c =
    let a = c.args in
    let l = c.loop-i in
    let more = c.loop-i-test.true in
    let first = c.label_of.ensures in
    let second = c.label_of-in-loop-i.ensures in
    sym (same_apart a.labels.now a.pairs.now l.i more (λ e. c.if-label_of.true (first ∙ e ∙ sym second))) ∙ l.invariant.1

pub loop-i-preserved : goal.loop-i-preserved
loop-i-preserved c =
    let a = c.args in
    let l = c.loop-i in
    let more = c.loop-i-test.true in
    let alike = sym c.label_of.ensures ∙ c.if-label_of.false ∙ c.label_of-in-loop-i.ensures in
    (omega arith, sym (same_on a.labels.now a.pairs.now l.i more alike) ∙ l.invariant.1)

pub returns : goal.returns
returns c =
    let a = c.args in
    let l = c.loop-i in
    sym (same-done a.labels.now a.pairs.now l.i c.loop-i-test.false) ∙ l.invariant.1

-- `verdict::same_subterms`: what is left of the two lists agrees exactly if the whole does. The measure is what is left of
-- the subterms made. Assumes nothing.
use mathlib.Core.Path.{sym, ◌∙◌}
use native.Mathlib.Omega.{arith}
use Rattle.verdict.specs.SubtermsLaws.{due_ended, made-ended, steps_differ, names_differ, both_agree}
use Rattle.verdict.proofs.same_subterms.Goals as goal

pub returns-then-due-i : goal.returns-then-due-i
returns-then-due-i c =
    let a = c.args in
    let l = c.loop-i in
    let more = c.loop-i-test.true in
    sym (due_ended a.labels.now a.made.now a.due.now l.i more c.if-due-i.true) ∙ l.invariant.1

pub returns-then-made-i : goal.returns-then-made-i
returns-then-made-i c =
    let a = c.args in
    let l = c.loop-i in
    let more = c.loop-i-test.true in
    sym (steps_differ a.labels.now a.made.now a.due.now l.i more c.if-due-i.false c.if-made-i.true) ∙ l.invariant.1

pub returns-then-label_of : goal.returns-then-label_of
returns-then-label_of c =
    let a = c.args in
    let l = c.loop-i in
    let more = c.loop-i-test.true in
    let first = c.label_of.ensures in
    let second = c.label_of-in-loop-i.ensures in
    sym (names_differ a.labels.now a.made.now a.due.now l.i more c.if-due-i.false c.if-made-i.false (λ e. c.if-label_of.true (first ∙ e ∙ sym second))) ∙ l.invariant.1

pub loop-i-preserved : goal.loop-i-preserved
loop-i-preserved c =
    let a = c.args in
    let l = c.loop-i in
    let more = c.loop-i-test.true in
    let alike = sym c.label_of.ensures ∙ c.if-label_of.false ∙ c.label_of-in-loop-i.ensures in
    (omega arith, sym (both_agree a.labels.now a.made.now a.due.now l.i more c.if-due-i.false c.if-made-i.false alike) ∙ l.invariant.1)

pub returns : goal.returns
returns c =
    let a = c.args in
    let l = c.loop-i in
    made-ended a.labels.now a.made.now a.due.now l.i c.loop-i-test.false ∙ l.invariant.1

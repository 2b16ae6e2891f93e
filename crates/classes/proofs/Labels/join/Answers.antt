-- `classes::Labels::join`: the two labels found are linked, or a number is no name and nothing changed. Assumes nothing.
use Rattle.std.proofs.Common.{rules}
use Rattle.classes.specs.ClassesLaws.{first_outside, second_outside}
use Rattle.classes.specs.ParentsLaws.{unlinked, first-joined, second-joined}
use Rattle.classes.proofs.Labels.join.Goals as goal

pub returns-then-x : goal.returns-then-x
returns-then-x c = unlinked _ (rw c.self.view_is at c.self.invariant) _ _ (first_outside _ _ c.if-x.true)

pub returns-then-y : goal.returns-then-y
returns-then-y c = unlinked _ (rw c.self.view_is at c.self.invariant) _ _ (second_outside _ _ c.if-y.true)

pub returns-then-a-b : goal.returns-then-a-b
returns-then-a-b c =
    let found = rw (← c.self-2.view_is) at c.find-b.ensures in
    second-joined _ _ _ _ _ _ _ c.if-x.false c.if-y.false c.find-a.ensures found (search rules)

pub returns : goal.returns
returns c =
    let found = rw (← c.self-2.view_is) at c.find-b.ensures in
    first-joined _ _ _ _ _ _ _ c.if-x.false c.if-y.false c.find-a.ensures found (search rules)

-- `classes::Labels::find`: the name reached has the label of `x`, and no label changed. The measure is that name, since the walk
-- falls. Assumes nothing.
use Rattle.classes.specs.ParentsLaws.{Walked}
use Rattle.classes.proofs.Labels.find.Given as goal

abbrev pub invariant-loop-parent : goal.invariant-loop-parent
invariant-loop-parent l = Walked l.initial.self-inside.parents l.x l.self-inside.parents l.name l.parent

abbrev pub decreases-loop-parent : goal.decreases-loop-parent
decreases-loop-parent l = l.name

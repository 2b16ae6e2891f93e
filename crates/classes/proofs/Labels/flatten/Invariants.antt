-- `classes::Labels::flatten`: the names passed have their labels for parents. Assumes nothing.
use Rattle.classes.specs.ParentsLaws.{Passed}
use Rattle.classes.proofs.Labels.flatten.Given as goal

abbrev pub invariant-loop-x : goal.invariant-loop-x
invariant-loop-x l = Passed l.initial.self-inside.parents l.self-inside.parents l.x

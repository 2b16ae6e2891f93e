-- `restricting_sets::no_use_of`: the uses of the variables passed have been heeded. Assumes nothing.
use mathlib.Core.Path.{◌≡◌}
use Rattle.restricting_sets.specs.StepLaws.{with_below}
use Rattle.restricting_sets.proofs.no_use_of.Given as goal

abbrev pub invariant-loop-u : goal.invariant-loop-u
invariant-loop-u l = l.set ≡ with_below l.sets.use_sets l.sets.use_counts l.chunks l.v l.chunk l.no_use_set l.u

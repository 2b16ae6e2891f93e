-- `classes::Labels::join_all`: the pairs that are left lead from the labels now to the labels after all. Assumes nothing.
use Rattle.std.proofs.Common.{ℕ, List, drop}
use Rattle.classes.specs.Classes.{labels_after}
use Rattle.classes.specs.Parents.{Falling, Rooted}
use Rattle.classes.specs.ParentsLaws.{Toward}
use Rattle.classes.proofs.Labels.join_all.Given as goal

abbrev pub invariant-loop-x : goal.invariant-loop-x
invariant-loop-x l =
    Falling l.self
    × ((labels : List ℕ) → Rooted l.initial.self labels → Toward (labels_after labels l.pairs) (drop l.x-index l.pairs) l.self)

-- `classes::Labels::join_flat`: the pairs that are left lead from the labels now to the labels after all. The measure is what is
-- left of the pairs. Assumes nothing.
use Rattle.std.proofs.Common.{ℕ, ◌-◌, ◌≤◌, List, length, drop}
use Rattle.classes.specs.Classes.{pairs_of, labels_after}
use Rattle.classes.specs.Parents.{Falling, Rooted}
use Rattle.classes.specs.ParentsLaws.{Toward}
use Rattle.classes.proofs.Labels.join_flat.Given as goal

abbrev pub invariant-loop-i : goal.invariant-loop-i
invariant-loop-i l =
    (l.i ≤ length l.pairs)
    × Falling l.self
    × ((labels : List ℕ) → Rooted l.initial.self labels → Toward (labels_after labels (pairs_of l.pairs)) (pairs_of (drop l.i l.pairs)) l.self)

abbrev pub decreases-loop-i : goal.decreases-loop-i
decreases-loop-i l = length l.pairs - l.i

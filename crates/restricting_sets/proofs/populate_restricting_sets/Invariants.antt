-- `restricting_sets::populate_restricting_sets`: the rows passed are made, in both tables. Assumes nothing.
use mathlib.Core.Path.{◌≡◌}
use Rattle.restricting_sets.specs.Restricting.{no_use_of, conflict_at}
use Rattle.restricting_sets.specs.AnewLaws.{first_anew}
use Rattle.restricting_sets.proofs.populate_restricting_sets.Given as goal

abbrev pub invariant-loop-v : goal.invariant-loop-v
invariant-loop-v l =
    (l.sets.use_sets ≡ l.initial.sets.use_sets)
    × (l.sets.use_counts ≡ l.initial.sets.use_counts)
    × (l.sets.no_use ≡ first_anew (no_use_of l.initial.sets.use_sets l.initial.sets.use_counts l.chunks) l.initial.sets.no_use l.v)
    × (l.sets.conflict ≡ first_anew (conflict_at l.initial.sets.use_sets l.initial.sets.use_counts l.chunks) l.initial.sets.conflict l.v)

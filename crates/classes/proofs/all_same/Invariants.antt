-- `classes::all_same`: the pairs that are left have one label each exactly if all have. The measure is what is left of the pairs.
-- Assumes nothing.
use Prim.Native.Nat.{◌-◌, ◌≤◌}
use mathlib.Core.Path.{◌≡◌}
use lib.ListN.{length, drop}
use Rattle.classes.specs.Classes.{pairs_of, all_same}
use Rattle.classes.proofs.all_same.Given as goal

abbrev pub invariant-loop-i : goal.invariant-loop-i
invariant-loop-i l =
    (l.i ≤ length l.pairs) × (all_same l.labels (pairs_of (drop l.i l.pairs)) ≡ all_same l.labels (pairs_of l.pairs))

abbrev pub decreases-loop-i : goal.decreases-loop-i
decreases-loop-i l = length l.pairs - l.i

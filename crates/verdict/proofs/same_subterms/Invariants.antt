-- `verdict::same_subterms`: what is left of the two lists agrees exactly if the whole does. The measure is what is left of
-- the subterms made. Assumes nothing.
use Prim.Native.Nat.{◌-◌, ◌≤◌}
use mathlib.Core.Path.{◌≡◌}
use lib.ListN.{length, drop}
use Rattle.classes.specs.Classes.{pairs_of}
use Rattle.verdict.specs.Verdict.{same_subterms}
use Rattle.verdict.proofs.same_subterms.Given as goal

abbrev pub invariant-loop-i : goal.invariant-loop-i
invariant-loop-i l =
    (l.i ≤ length l.made)
    × (same_subterms l.labels (pairs_of (drop l.i l.made)) (pairs_of (drop l.i l.due)) ≡ same_subterms l.labels (pairs_of l.made) (pairs_of l.due))

abbrev pub decreases-loop-i : goal.decreases-loop-i
decreases-loop-i l = length l.made - l.i

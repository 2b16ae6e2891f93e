-- `resets::reset_at_head`: from argument i on the list makes of what is so far what the whole list makes. Assumes nothing.
use Prim.Native.Nat.{◌+◌, ◌≤◌}
use mathlib.Core.Path.{◌≡◌}
use lib.ListN.{length, drop}
use Rattle.sizes.specs.Sizes.{registers}
use Rattle.resets.specs.Resets.{head_arguments, heading, arguments_placed}
use Rattle.resets.proofs.reset_at_head.Given as goal

abbrev pub invariant-loop-i : goal.invariant-loop-i
invariant-loop-i l =
    (l.count ≤ registers)
    × (l.count ≤ length l.arguments)
    × (arguments_placed (heading l.records l.mappings l.headed) (l.i + 1) (drop l.i (head_arguments l.arguments)) ≡ arguments_placed (heading l.initial.records l.initial.mappings l.initial.headed) 1 (head_arguments l.arguments))

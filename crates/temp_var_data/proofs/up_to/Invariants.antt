-- `temp_var_data::up_to`: the numbers below the one at hand have been inserted. Assumes nothing.
use Prim.Native.Nat.{◌≤◌, max}
use mathlib.Core.Path.{◌≡◌}
use Rattle.temp_var_data.specs.Uses.{up_to}
use Rattle.temp_var_data.proofs.up_to.Given as goal

abbrev pub invariant-loop-n : goal.invariant-loop-n
invariant-loop-n l = (l.n ≤ max 1 l.end) × (l.numbers ≡ up_to l.n)

-- `temp_var_data::used_registers`: the registers of the uses passed have been inserted. Assumes nothing.
use Prim.Native.Nat.{ℕ}
use mathlib.Core.Path.{◌≡◌}
use mathlib.Core.Bool.{Bool}
use lib.Dec.{eqb}
use Rattle.temp_var_data.specs.Uses.{register_of}
use Rattle.temp_var_data.specs.GivenLaws.{given_first}
use Rattle.temp_var_data.proofs.used_registers.Given as goal

abbrev pub has-register : ℕ → ℕ → Bool
has-register r code = eqb r (register_of code)

abbrev pub invariant-loop-code : goal.invariant-loop-code
invariant-loop-code l = l.registers ≡ given_first has-register l.use_set l.code-index

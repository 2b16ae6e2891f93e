-- The instruction that stands for a variable in a fact or a query, rule 11.3, under the original's names.
use Rattle.std.specs.Prelude.{ℕ}
use Rattle.registers.specs.declared.RegType.{RegType}
use Rattle.registers.specs.declared.RegType.TheVariants.{Temp, Perm}
use Rattle.instructions.specs.declared.Instruction.{Instruction}
use Rattle.instructions.specs.declared.Instruction.TheVariants.{GetVariable, GetValue, PutVariable, PutValue, PutUnsafeValue, SetVariable, SetValue, SetLocalValue, UnifyVariable, UnifyValue, UnifyLocalValue}
use Rattle.targets.specs.declared.Target.{Target}
use Rattle.targets.specs.declared.Target.TheVariants.{Fact, Query}

-- ---- For argument k

abbrev pub argument_to_variable : Target → RegType → ℕ → Instruction
argument_to_variable Fact r k = GetVariable r k
argument_to_variable Query r k = PutVariable r k

abbrev pub argument_to_value : Target → RegType → ℕ → Instruction
argument_to_value Fact r k = GetValue r k
argument_to_value Query r k = PutValue r k

-- a guarded value: a query's slot has an instruction of its own
abbrev pub unsafe_argument_to_value : Target → RegType → ℕ → Instruction
unsafe_argument_to_value Fact r k = GetValue r k
unsafe_argument_to_value Query (Perm p) k = PutUnsafeValue p k
unsafe_argument_to_value Query (Temp r) k = PutValue (Temp r) k

-- a move, the same for both
abbrev pub move_to_register : RegType → ℕ → Instruction
move_to_register r k = GetVariable r k

-- ---- For a subterm

abbrev pub subterm_to_variable : Target → RegType → Instruction
subterm_to_variable Fact r = UnifyVariable r
subterm_to_variable Query r = SetVariable r

abbrev pub subterm_to_value : Target → RegType → Instruction
subterm_to_value Fact r = UnifyValue r
subterm_to_value Query r = SetValue r

abbrev pub unsafe_subterm_to_value : Target → RegType → Instruction
unsafe_subterm_to_value Fact r = UnifyLocalValue r
unsafe_subterm_to_value Query r = SetLocalValue r

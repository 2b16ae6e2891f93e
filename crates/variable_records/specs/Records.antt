-- A record's place, and a record with another allocation or place.
use Rattle.std.specs.Prelude.{ℕ}
use Rattle.registers.specs.declared.RegType.{RegType}
use Rattle.registers.specs.declared.RegType.TheVariants.{Temp as TempRegister, Perm as PermSlot}
use Rattle.variable_records.specs.declared.VarAlloc.{VarAlloc}
use Rattle.variable_records.specs.declared.VarAlloc.TheVariants.{Temp, Perm}
use Rattle.variable_records.specs.declared.VariableRecord.{VariableRecord}

abbrev pub place_of_alloc : VarAlloc → RegType
place_of_alloc (Temp context register safety to_perm) = TempRegister register
place_of_alloc (Perm slot allocation) = PermSlot slot

abbrev pub place_of : VariableRecord → RegType
place_of variable = place_of_alloc variable.allocation

abbrev pub allocated : VariableRecord → VarAlloc → VariableRecord
allocated variable allocation =
    record {
      allocation = allocation;
      num_occurrences = variable.num_occurrences;
      running_count = variable.running_count;
    }

abbrev pub placed_alloc : VarAlloc → ℕ → VarAlloc
placed_alloc (Temp context register safety to_perm) place = Temp context place safety to_perm
placed_alloc (Perm slot allocation) place = Perm place allocation

abbrev pub placed_at : VariableRecord → ℕ → VariableRecord
placed_at variable place = allocated variable (placed_alloc variable.allocation place)

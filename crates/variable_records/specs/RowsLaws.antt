-- Laws of rows: the numbers that stand for a record stand for that record.
use Rattle.std.specs.Prelude.{ℕ, ◌≡◌, refl}
use Rattle.forms.specs.Forms.{chunk_num}
use Rattle.forms.specs.declared.GenContext.{GenContext}
use Rattle.forms.specs.declared.GenContext.TheVariants.{Head, Mid, Last}
use Rattle.variable_records.specs.declared.VarSafetyStatus.{VarSafetyStatus}
use Rattle.variable_records.specs.declared.VarSafetyStatus.TheVariants.{Needed, LocallyUnneeded, GloballyUnneeded}
use Rattle.variable_records.specs.declared.PermVarAllocation.TheVariants.{Done, Pending}
use Rattle.variable_records.specs.declared.VarAlloc.{VarAlloc}
use Rattle.variable_records.specs.declared.VarAlloc.TheVariants.{Temp, Perm}
use Rattle.variable_records.specs.declared.VariableRecord.{VariableRecord}
use Rattle.variable_records.specs.Rows.{safety_of, safety_row_of, context_of, context_code, perm_of, allocation_of, allocation_row, record_of, row_of, counted}

pub safety_row_lem : (safety : VarSafetyStatus) → safety_of (safety_row_of safety) ≡ safety
unfolding safety_of
safety_row_lem Needed = refl
safety_row_lem (LocallyUnneeded branch) = refl
safety_row_lem GloballyUnneeded = refl

pub context_code_lem : (context : GenContext) → context_of (context_code context) (chunk_num context) ≡ context
unfolding context_of
context_code_lem Head = refl
context_code_lem (Mid chunk) = refl
context_code_lem (Last chunk) = refl

allocation_row_lem :
    (allocation : VarAlloc) (occurrences running : ℕ)
    → allocation_of (counted occurrences running (allocation_row allocation)) ≡ allocation
unfolding allocation_of perm_of
allocation_row_lem (Temp context register safety to_perm) occurrences running = rw (context_code_lem context, safety_row_lem safety)
allocation_row_lem (Perm slot (Done shallow deep)) occurrences running = rw (safety_row_lem shallow, safety_row_lem deep)
allocation_row_lem (Perm slot Pending) occurrences running = refl

pub record_row : (variable : VariableRecord) → record_of (row_of variable) ≡ variable
unfolding record_of
record_row variable = rw (allocation_row_lem variable.allocation variable.num_occurrences variable.running_count)

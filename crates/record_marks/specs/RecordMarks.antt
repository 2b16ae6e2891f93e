-- What a mark does to the record of its variable.
use Rattle.std.specs.Prelude.{ℕ, Bool, false, ◌&&◌, ◌||◌, eqb, Option, Some, None}
use Rattle.std.specs.Prelude.{if◌then◌else◌}
use Rattle.forms.specs.declared.Branch.{Branch}
use Rattle.forms.specs.declared.GenContext.{GenContext}
use Rattle.forms.specs.declared.GenContext.TheVariants.{Head, Mid, Last}
use Rattle.forms.specs.declared.Level.{Level}
use Rattle.forms.specs.declared.Level.TheVariants.{Root, Shallow, Deep}
use Rattle.registers.specs.declared.RegType.{RegType}
use Rattle.registers.specs.declared.RegType.TheVariants.{Temp as TempRegister, Perm as PermSlot}
use Rattle.instructions.specs.declared.Instruction.{Instruction}
use Rattle.targets.specs.declared.Target.{Target}
use Rattle.targets.specs.Targets.{argument_to_value, unsafe_argument_to_value, subterm_to_value, unsafe_subterm_to_value}
use Rattle.variable_records.specs.declared.VarSafetyStatus.{VarSafetyStatus}
use Rattle.variable_records.specs.declared.VarSafetyStatus.TheVariants.{GloballyUnneeded}
use Rattle.variable_records.specs.declared.PermVarAllocation.TheVariants.{Done, Pending}
use Rattle.variable_records.specs.declared.VarAlloc.{VarAlloc}
use Rattle.variable_records.specs.declared.VarAlloc.TheVariants.{Temp, Perm}
use Rattle.variable_records.specs.declared.VariableRecord.{VariableRecord}
use Rattle.variable_records.specs.Records.{allocated}
use Rattle.variable_records.specs.Safety.{unneeded_in, safety_unneeded}
use Rattle.record_marks.specs.declared.Valued.{Valued}
use Rattle.record_marks.specs.declared.MarkedSafe.{MarkedSafe}
use Rattle.record_marks.specs.declared.MarkedSafe.TheVariants.{Safe, FromTemporary}

-- an argument is not guarded outside the tail position, nor where its safety is unneeded
unfoldable pub argument_safe : ℕ → VarSafetyStatus → Branch → Bool
argument_safe tail safety branch = eqb tail 0 || safety_unneeded safety branch

-- the record afterwards, and the instruction
abbrev pub valued : VariableRecord → Instruction → Valued
valued variable instruction = record { variable = variable; instruction = instruction }

-- rule 12.6: an argument that is not new; guarded once, and from then on not in this branch
unfoldable pub argument_value_of : VarAlloc → VariableRecord → Target → RegType → ℕ → ℕ → Branch → Option Valued
argument_value_of (Temp context register safety to_perm) variable target place k tail branch =
    Some (valued variable (argument_to_value target place k))
argument_value_of (Perm slot Pending) variable target place k tail branch = None
argument_value_of (Perm slot (Done shallow deep)) variable target place k tail branch =
    if argument_safe tail shallow branch then Some (valued variable (argument_to_value target place k))
    else Some (valued (allocated variable (Perm slot (Done (unneeded_in branch) deep))) (unsafe_argument_to_value target place k))

abbrev pub argument_value : VariableRecord → Target → RegType → ℕ → ℕ → Branch → Option Valued
argument_value variable = argument_value_of variable.allocation variable

-- rule 12.8: a subterm that counts as met; likewise, in any position
unfoldable pub subterm_value_of : VarAlloc → VariableRecord → Target → RegType → Branch → Option Valued
subterm_value_of (Temp context register safety to_perm) variable target place branch =
    if safety_unneeded safety branch then Some (valued variable (subterm_to_value target place))
    else Some (valued (allocated variable (Temp context register (unneeded_in branch) to_perm)) (unsafe_subterm_to_value target place))
subterm_value_of (Perm slot Pending) variable target place branch = None
subterm_value_of (Perm slot (Done shallow deep)) variable target place branch =
    if safety_unneeded deep branch then Some (valued variable (subterm_to_value target place))
    else Some (valued (allocated variable (Perm slot (Done shallow (unneeded_in branch)))) (unsafe_subterm_to_value target place))

abbrev pub subterm_value : VariableRecord → Target → RegType → Branch → Option Valued
subterm_value variable = subterm_value_of variable.allocation variable

-- ---- New: rules 12.5 and 12.9

unfoldable pub safe_in : VariableRecord → ℕ → Branch → VariableRecord
safe_in variable slot branch = allocated variable (Perm slot (Done (unneeded_in branch) (unneeded_in branch)))

-- rule 12.5: in the head only the shallow safety becomes unneeded everywhere; outside the head the temporary that is
-- mapped to k is to note the move
abbrev pub safe_argument : VariableRecord → ℕ → VarSafetyStatus → GenContext → MarkedSafe
safe_argument variable slot deep Head = Safe (allocated variable (Perm slot (Done GloballyUnneeded deep)))
safe_argument variable slot deep (Mid chunk) = FromTemporary
safe_argument variable slot deep (Last chunk) = FromTemporary

abbrev pub safe_at : Level → VariableRecord → ℕ → VarSafetyStatus → GenContext → Branch → MarkedSafe
safe_at Deep variable slot deep context branch = Safe (safe_in variable slot branch)
safe_at Root variable slot deep context branch = safe_argument variable slot deep context
safe_at Shallow variable slot deep context branch = safe_argument variable slot deep context

abbrev pub marked_safe_of : VarAlloc → VariableRecord → Level → GenContext → Branch → Option MarkedSafe
marked_safe_of (Temp at register safety to_perm) variable level context branch =
    Some (Safe (allocated variable (Temp at register GloballyUnneeded to_perm)))
marked_safe_of (Perm slot Pending) variable level context branch = None
marked_safe_of (Perm slot (Done shallow deep)) variable level context branch =
    Some (safe_at level variable slot deep context branch)

abbrev pub marked_safe : VariableRecord → Level → GenContext → Branch → Option MarkedSafe
marked_safe variable = marked_safe_of variable.allocation variable

-- ---- Said to be safe: rule 14.4

abbrev pub unconditionally_of : VarAlloc → VariableRecord → Branch → Option VariableRecord
unconditionally_of (Temp context register safety to_perm) variable branch =
    Some (allocated variable (Temp context register (unneeded_in branch) to_perm))
unconditionally_of (Perm slot Pending) variable branch = None
unconditionally_of (Perm slot (Done shallow deep)) variable branch = Some (safe_in variable slot branch)

abbrev pub marked_unconditionally : VariableRecord → Branch → Option VariableRecord
marked_unconditionally variable = unconditionally_of variable.allocation variable

-- ---- In place: rule 12.4

abbrev pub stored_in_place : VarAlloc → ℕ → ℕ → Bool
stored_in_place (Temp context register safety to_perm) r k = eqb r k && eqb register k
stored_in_place (Perm slot allocation) r k = false

-- in the head it is enough that its place is k; otherwise k has to be the register in its record, too
abbrev pub in_place : VariableRecord → GenContext → RegType → ℕ → Bool
in_place variable context (PermSlot r) k = stored_in_place variable.allocation r k
in_place variable Head (TempRegister r) k = eqb r k
in_place variable (Mid chunk) (TempRegister r) k = stored_in_place variable.allocation r k
in_place variable (Last chunk) (TempRegister r) k = stored_in_place variable.allocation r k

-- ---- A temporary notes the permanent variable that it was moved to: rule 12.5

abbrev pub remembered_of : VarAlloc → VariableRecord → ℕ → Option VariableRecord
remembered_of (Temp context register safety to_perm) variable v = Some (allocated variable (Temp context register safety v))
remembered_of (Perm slot allocation) variable v = None

abbrev pub remembered_perm : VariableRecord → ℕ → Option VariableRecord
remembered_perm variable = remembered_of variable.allocation variable

-- The instruction for a variable whose place is known.
use Rattle.std.specs.Prelude.{ℕ, Bool, false, not, ◌||◌, List, eqb, leb, Option, Some, None}
use Rattle.std.specs.Prelude.{if◌then◌else◌}
use Rattle.sizes.specs.Sizes.{variables}
use Rattle.refusals.specs.declared.Refusal.{Refusal}
use Rattle.refusals.specs.Refusals.{accepted, refused_unreachable, is_refused}
use Rattle.forms.specs.Forms.{chunk_num}
use Rattle.forms.specs.declared.Branch.{Branch}
use Rattle.forms.specs.declared.GenContext.{GenContext}
use Rattle.forms.specs.declared.GenContext.TheVariants.{Head, Mid, Last}
use Rattle.forms.specs.declared.Level.{Level}
use Rattle.forms.specs.declared.Level.TheVariants.{Deep}
use Rattle.registers.specs.declared.RegType.{RegType}
use Rattle.registers.specs.Registers.{number_of_place}
use Rattle.instructions.specs.declared.Instruction.{Instruction}
use Rattle.targets.specs.declared.Target.{Target}
use Rattle.targets.specs.Targets.{argument_to_variable, subterm_to_variable}
use Rattle.code_deque.specs.declared.CodeDeque.{CodeDeque}
use Rattle.code_deque.specs.CodeDeque.{pushed}
use Rattle.variable_records.specs.declared.VarAlloc.{VarAlloc}
use Rattle.variable_records.specs.declared.VarAlloc.TheVariants.{Temp, Perm}
use Rattle.variable_records.specs.declared.VariableRecord.{VariableRecord}
use Rattle.variable_records.specs.Rows.{record_at, record_put}
use Rattle.temp_var_data.specs.Uses.{uses_of, contains_use, use_code, head_context}
use Rattle.shallow_temp_mappings.specs.Mappings.{mapped_at}
use Rattle.allocator_state.specs.declared.Counters.{Counters}
use Rattle.allocator_state.specs.Counters.{with_arg_c}
use Rattle.allocator_state.specs.State.{counter_after}
use Rattle.evacuation.specs.declared.Reached.{Reached}
use Rattle.restricting_sets.specs.declared.VariableSets.{VariableSets}
use Rattle.evacuation.specs.Evacuation.{Evacuation, evacuation, evacuated, going_on}
use Rattle.record_marks.specs.declared.MarkedSafe.{MarkedSafe}
use Rattle.record_marks.specs.declared.MarkedSafe.TheVariants.{Safe, FromTemporary}
use Rattle.record_marks.specs.declared.Valued.{Valued}
use Rattle.record_marks.specs.RecordMarks.{marked_safe, remembered_perm, in_place, argument_value, subterm_value}

-- ---- New: rules 12.5 and 12.9

-- the records, and the refusal, none as yet where it goes on; Unreachable by rule 4.8
pub record SafeStep : Type 0 where
  pub records : List ℕ
  pub refusal : Option Refusal

abbrev pub safe_step : List ℕ → Option Refusal → SafeStep
safe_step records refusal = record { records = records; refusal = refusal }

abbrev pub safe_kept : List ℕ → ℕ → Option VariableRecord → SafeStep
safe_kept records v (Some variable) = safe_step (record_put records v variable) accepted
safe_kept records v None = safe_step records refused_unreachable

-- rule 12.5: the temporary that is mapped to k notes that it was moved to v
unfoldable pub remembered : List ℕ → List ℕ → ℕ → ℕ → SafeStep
remembered records mappings k v =
    if leb variables (mapped_at mappings k) then safe_step records accepted
    else safe_kept records (mapped_at mappings k) (remembered_perm (record_at records (mapped_at mappings k)) v)

abbrev pub safe_made_by : Option MarkedSafe → List ℕ → List ℕ → ℕ → ℕ → SafeStep
safe_made_by (Some (Safe variable)) records mappings k v = safe_step (record_put records v variable) accepted
safe_made_by (Some FromTemporary) records mappings k v = remembered records mappings k v
safe_made_by None records mappings k v = safe_step records refused_unreachable

unfoldable pub safe_made : List ℕ → List ℕ → ℕ → ℕ → Level → GenContext → Branch → SafeStep
safe_made records mappings k v level context branch =
    safe_made_by (marked_safe (record_at records v) level context branch) records mappings k v

-- ---- The instruction

-- the records, and how far the event has come
pub record Step : Type 0 where
  pub records : List ℕ
  pub reached : Reached

abbrev pub step : List ℕ → Reached → Step
step records reached = record { records = records; reached = reached }

abbrev pub stopped : Counters → CodeDeque → Option Refusal → Reached
stopped c code refusal = record { counters = c; code = code; refusal = refusal }

unfoldable pub instructed_after : Counters → CodeDeque → Option Refusal → Instruction → Reached
instructed_after c code refusal instruction =
    if is_refused refusal then stopped c code refusal else going_on c (pushed code instruction)

abbrev pub value_kept : Counters → List ℕ → ℕ → Option Valued → CodeDeque → Step
value_kept c records v (Some valued) code =
    step (record_put records v valued.variable) (instructed_after c code accepted valued.instruction)
value_kept c records v None code = step records (stopped c code refused_unreachable)

abbrev pub safe_instructed : SafeStep → Counters → CodeDeque → Instruction → Step
safe_instructed s c code instruction = step s.records (instructed_after c code s.refusal instruction)

-- rules 12.4 to 12.6: nothing for an argument that is in place; otherwise it is printed as new, or as a value
unfoldable pub argument_made :
    Counters → List ℕ → List ℕ → Target → Level → GenContext → ℕ → RegType → Bool → Branch → CodeDeque → Step
argument_made c records mappings target level context v place is_new branch code =
    if in_place (record_at records v) context place c.arg_c then step records (going_on c code)
    else if is_new then
    safe_instructed
    (safe_made records mappings c.arg_c v level context branch)
    c
    code
    (argument_to_variable target place c.arg_c)
    else
    value_kept
    c
    records
    v
    (argument_value (record_at records v) target place c.arg_c c.in_tail_position branch)
    code

-- a temporary of the head with the use `h`:r
abbrev pub shallow_in_head_of : VarAlloc → VariableSets → ℕ → ℕ → Bool
shallow_in_head_of (Temp Head register safety to_perm) s v r =
    contains_use (uses_of s.use_sets s.use_counts v) (use_code head_context r)
shallow_in_head_of (Temp (Mid chunk) register safety to_perm) s v r = false
shallow_in_head_of (Temp (Last chunk) register safety to_perm) s v r = false
shallow_in_head_of (Perm slot allocation) s v r = false

unfoldable pub shallow_in_head : List ℕ → VariableSets → ℕ → ℕ → Bool
shallow_in_head records s v r = shallow_in_head_of (record_at records v).allocation s v r

abbrev pub met_in : List ℕ → VariableSets → GenContext → ℕ → RegType → Bool
met_in records s (Mid chunk) v place = false
met_in records s (Last chunk) v place = false
met_in records s Head v place = shallow_in_head records s v (number_of_place place)

-- rule 12.7: a subterm counts as met if it is not new, or if it is an argument of the head in its place
unfoldable pub met : List ℕ → VariableSets → GenContext → ℕ → RegType → Bool → Bool
met records s context v place is_new = not is_new || met_in records s context v place

-- rules 12.8 and 12.9: a subterm that counts as met is printed as a value, any other as new
unfoldable pub subterm_made :
    Counters → List ℕ → List ℕ → VariableSets → Target → GenContext → ℕ → RegType → Bool → Branch → CodeDeque → Step
subterm_made c records mappings s target context v place is_new branch code =
    if met records s context v place is_new then
    value_kept c records v (subterm_value (record_at records v) target place branch) code
    else
    safe_instructed
    (safe_made records mappings c.arg_c v Deep context branch)
    c
    code
    (subterm_to_variable target place)

-- ---- A variable as an argument: rule 12.3

-- k is evacuated if another variable than v is mapped to it
unfoldable pub others_out : Counters → List ℕ → List ℕ → VariableSets → ℕ → ℕ → CodeDeque → Evacuation
others_out c records mappings s v chunk code =
    if leb variables (mapped_at mappings c.arg_c) then evacuation records mappings (going_on c code)
    else if eqb (mapped_at mappings c.arg_c) v then evacuation records mappings (going_on c code)
    else evacuated c records mappings s chunk code

unfoldable pub advanced_by : Reached → Reached
advanced_by reached =
    if is_refused reached.refusal then reached
    else going_on (with_arg_c (counter_after reached.counters.arg_c) reached.counters) reached.code

abbrev pub advanced_step : Step → List ℕ → Evacuation
advanced_step s mappings = evacuation s.records mappings (advanced_by s.reached)

unfoldable pub marked_after :
    Evacuation → Target → Level → GenContext → ℕ → RegType → Bool → Branch → Evacuation
marked_after e target level context v place is_new branch =
    if is_refused e.reached.refusal then e
    else
    advanced_step
    (argument_made e.reached.counters e.records e.mappings target level context v place is_new branch e.reached.code)
    e.mappings

unfoldable pub argument_marked :
    Counters → List ℕ → List ℕ → VariableSets → Target → Level → GenContext → ℕ → RegType → Bool → Branch → CodeDeque → Evacuation
argument_marked c records mappings s target level context v place is_new branch code =
    marked_after (others_out c records mappings s v (chunk_num context) code) target level context v place is_new branch

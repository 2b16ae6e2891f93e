-- Marks of what is no ordinary occurrence of a variable.
use Rattle.std.specs.Prelude.{Option, Some, None, ℕ, Bool, true, false, List, eqb}
use Rattle.std.specs.Prelude.{if◌then◌else◌}
use Rattle.refusals.specs.declared.Refusal.{Refusal}
use Rattle.refusals.specs.Refusals.{refused_register, is_refused}
use Rattle.bit_set.specs.BitSet.{inserted}
use Rattle.registers.specs.declared.RegType.{RegType}
use Rattle.registers.specs.declared.RegType.TheVariants.{Temp as TempRegister, Perm as PermSlot}
use Rattle.instructions.specs.declared.Instruction.{Instruction}
use Rattle.targets.specs.declared.Target.{Target}
use Rattle.targets.specs.Targets.{argument_to_variable, subterm_to_variable}
use Rattle.code_deque.specs.declared.CodeDeque.TheVariants.{Empty}
use Rattle.code_deque.specs.CodeDeque.{pushed}
use Rattle.forms.specs.declared.GenContext.{GenContext}
use Rattle.forms.specs.declared.GenContext.TheVariants.{Head, Mid, Last}
use Rattle.forms.specs.declared.Level.{Level}
use Rattle.forms.specs.declared.Level.TheVariants.{Root, Shallow, Deep}
use Rattle.variable_records.specs.declared.VarSafetyStatus.TheVariants.{GloballyUnneeded}
use Rattle.variable_records.specs.declared.VarAlloc.{VarAlloc}
use Rattle.variable_records.specs.declared.VarAlloc.TheVariants.{Temp, Perm}
use Rattle.variable_records.specs.declared.VariableRecord.{VariableRecord}
use Rattle.variable_records.specs.Records.{allocated}
use Rattle.variable_records.specs.Rows.{record_at, record_put}
use Rattle.allocator_state.specs.declared.Counters.{Counters}
use Rattle.allocator_state.specs.Counters.{with_in_use}
use Rattle.evacuation.specs.declared.Reached.{Reached}
use Rattle.restricting_sets.specs.declared.VariableSets.{VariableSets}
use Rattle.evacuation.specs.Evacuation.{Evacuation, evacuation, evacuated, going_on}
use Rattle.allocation.specs.Allocation.{Placement, non_var, perm_placed}
use Rattle.reserved_var.specs.ReservedVar.{advanced_by}
use Rattle.marks.specs.declared.Marked.{Marked}

-- ---- What the three marks share

-- a refused mark's place is x0
abbrev pub refused_at : Reached → Marked
refused_at reached = record { reached = reached; place = TempRegister 0 }

abbrev pub refused_mark : Counters → Option Refusal → Marked
refused_mark c refusal = refused_at (record { counters = c; code = Empty; refusal = refusal })

-- no instruction
abbrev pub quiet_mark : Counters → RegType → Marked
quiet_mark c place = record { reached = going_on c Empty; place = place }

-- rules 13.1 and 13.3: k is evacuated only where the context is `l`N
abbrev pub emptied_in : GenContext → Counters → List ℕ → List ℕ → VariableSets → Evacuation
emptied_in Head c records mappings s = evacuation records mappings (going_on c Empty)
emptied_in (Mid chunk) c records mappings s = evacuation records mappings (going_on c Empty)
emptied_in (Last chunk) c records mappings s = evacuated c records mappings s chunk Empty

abbrev pub advanced_after : Evacuation → Evacuation
advanced_after e = evacuation e.records e.mappings (advanced_by e.reached)

-- an argument's turn: the evacuation, then the argument counter's next number
unfoldable pub turn_taken : Counters → List ℕ → List ℕ → VariableSets → GenContext → Evacuation
turn_taken c records mappings s context = advanced_after (emptied_in context c records mappings s)

unfoldable pub marked_at : Reached → RegType → Marked
marked_at reached place = if is_refused reached.refusal then refused_at reached else record { reached = reached; place = place }

unfoldable pub instructed_at : Reached → Instruction → RegType → Marked
instructed_at reached instruction place =
    if is_refused reached.refusal then refused_at reached
    else record { reached = going_on reached.counters (pushed reached.code instruction); place = place }

-- the tables that `anon` and `nonvar` may change, and the mark
pub record MarkOf : Type 0 where
  pub records : List ℕ
  pub mappings : List ℕ
  pub marked : Marked

abbrev pub mark_of : List ℕ → List ℕ → Marked → MarkOf
mark_of records mappings marked = record { records = records; mappings = mappings; marked = marked }

-- ---- An anonymous variable: rule 13.1

abbrev pub anon_after : Evacuation → Instruction → RegType → MarkOf
anon_after e instruction place = mark_of e.records e.mappings (instructed_at e.reached instruction place)

-- argument k is the one before its turn
unfoldable pub anon_argument : Counters → List ℕ → List ℕ → VariableSets → Target → GenContext → RegType → MarkOf
anon_argument c records mappings s target context place =
    anon_after (turn_taken c records mappings s context) (argument_to_variable target place c.arg_c) place

-- at level `r` it counts as an argument
abbrev pub is_argument : Level → Bool
is_argument Root = true
is_argument Shallow = true
is_argument Deep = false

unfoldable pub anon_placed : Counters → List ℕ → List ℕ → VariableSets → Target → Level → GenContext → RegType → MarkOf
anon_placed c records mappings s target level context place =
    if is_argument level then anon_argument c records mappings s target context place
    else mark_of records mappings (instructed_at (going_on c Empty) (subterm_to_variable target place) place)

abbrev pub anon_chosen : Option ℕ → Counters → List ℕ → List ℕ → VariableSets → Target → Level → GenContext → MarkOf
anon_chosen None c records mappings s target level context = mark_of records mappings (refused_mark c refused_register)
anon_chosen (Some r) c records mappings s target level context =
    anon_placed c records mappings s target level context (TempRegister r)

-- rule 13.2: its own register comes before the evacuation
unfoldable pub anon_marked : Counters → List ℕ → List ℕ → VariableSets → List ℕ → Target → Level → GenContext → MarkOf
anon_marked c records mappings s list target level context =
    anon_chosen (non_var c list).chosen (non_var c list).counters records mappings s target level context

-- ---- A term that is no variable: rules 13.3 and 13.4

abbrev pub term_chosen : Option ℕ → Counters → Marked
term_chosen None c = refused_mark c refused_register
term_chosen (Some r) c = quiet_mark c (TempRegister r)

unfoldable pub term_marked : Counters → List ℕ → Marked
term_marked c list = term_chosen (non_var c list).chosen (non_var c list).counters

-- rule 13.4: a cell above 0 is the register; for cell 0 one is found
unfoldable pub cell_marked : Counters → List ℕ → ℕ → Marked
cell_marked c list cell =
    if eqb cell 0 then term_marked c list
    else quiet_mark (with_in_use (inserted c.in_use cell) c) (TempRegister cell)

abbrev pub non_var_after : Evacuation → RegType → MarkOf
non_var_after e place = mark_of e.records e.mappings (marked_at e.reached place)

unfoldable pub non_var_argument : Counters → List ℕ → List ℕ → VariableSets → GenContext → MarkOf
non_var_argument c records mappings s context =
    non_var_after (turn_taken c records mappings s context) (TempRegister c.arg_c)

-- only at `s` it is an argument, and then the cell is not read
unfoldable pub non_var_marked : Counters → List ℕ → List ℕ → VariableSets → List ℕ → Level → GenContext → ℕ → MarkOf
non_var_marked c records mappings s list Root context cell = mark_of records mappings (cell_marked c list cell)
non_var_marked c records mappings s list Deep context cell = mark_of records mappings (cell_marked c list cell)
non_var_marked c records mappings s list Shallow context cell = non_var_argument c records mappings s context

-- ---- The variable of a cut: rules 13.5 and 13.6

-- the records, and the mark
pub record CutOf : Type 0 where
  pub records : List ℕ
  pub marked : Marked

abbrev pub cut_of : List ℕ → Marked → CutOf
cut_of records marked = record { records = records; marked = marked }

-- no occurrence is recorded, and the slot's number is not put in use
unfoldable pub slot_cut_by : Placement → CutOf
slot_cut_by p =
    if is_refused p.placed.refusal then cut_of p.records (refused_mark p.placed.counters p.placed.refusal)
    else cut_of p.records (quiet_mark p.placed.counters (PermSlot p.placed.place))

unfoldable pub slot_cut : Counters → List ℕ → List ℕ → ℕ → ℕ → CutOf
slot_cut c records perm_list v chunk = slot_cut_by (perm_placed c records perm_list v chunk)

-- the register is not mapped to it
abbrev pub register_cut_by : Option ℕ → Counters → List ℕ → ℕ → VariableRecord → GenContext → ℕ → CutOf
register_cut_by None c records v variable context to_perm = cut_of records (refused_mark c refused_register)
register_cut_by (Some r) c records v variable context to_perm =
    cut_of
    (record_put records v (allocated variable (Temp context r GloballyUnneeded to_perm)))
    (quiet_mark c (TempRegister r))

unfoldable pub register_cut : Counters → List ℕ → List ℕ → ℕ → VariableRecord → GenContext → ℕ → CutOf
register_cut c records list v variable context to_perm =
    register_cut_by (non_var c list).chosen (non_var c list).counters records v variable context to_perm

-- rule 13.5: a place that v has stays, also while v is Pending; 0 is none
unfoldable pub cut_as : VarAlloc → Counters → List ℕ → List ℕ → List ℕ → ℕ → ℕ → CutOf
cut_as (Perm slot allocation) c records perm_list list v chunk =
    if eqb slot 0 then slot_cut c records perm_list v chunk else cut_of records (quiet_mark c (PermSlot slot))
cut_as (Temp context register safety to_perm) c records perm_list list v chunk =
    if eqb register 0 then register_cut c records list v (record_at records v) context to_perm
    else cut_of records (quiet_mark c (TempRegister register))

unfoldable pub cut_marked : Counters → List ℕ → List ℕ → List ℕ → ℕ → ℕ → CutOf
cut_marked c records perm_list list v chunk = cut_as (record_at records v).allocation c records perm_list list v chunk

-- The instructions that an event makes, as a list of any length: what each of its steps makes, in order.
use Rattle.std.specs.Prelude.{ℕ, Bool, true, false, List, [], ◌∷◌, ◌++◌, eqb, leb, Option, Some, None}
use Rattle.std.specs.Prelude.{if◌then◌else◌}
use Rattle.sizes.specs.Sizes.{variables}
use Rattle.registers.specs.declared.RegType.{RegType}
use Rattle.registers.specs.declared.RegType.TheVariants.{Temp as TempRegister, Perm as PermSlot}
use Rattle.instructions.specs.declared.Instruction.{Instruction}
use Rattle.instructions.specs.declared.Instruction.TheVariants.{GetVariable}
use Rattle.targets.specs.declared.Target.{Target}
use Rattle.targets.specs.Targets.{argument_to_variable, subterm_to_variable}
use Rattle.code_deque.specs.declared.CodeDeque.TheVariants.{Empty}
use Rattle.forms.specs.declared.Branch.{Branch}
use Rattle.forms.specs.declared.GenContext.{GenContext}
use Rattle.forms.specs.declared.GenContext.TheVariants.{Head as InHead, Mid, Last}
use Rattle.forms.specs.declared.Level.{Level}
use Rattle.forms.specs.declared.Level.TheVariants.{Root, Shallow, Deep}
use Rattle.forms.specs.Forms.{chunk_num}
use Rattle.variable_records.specs.declared.PermVarAllocation.{PermVarAllocation}
use Rattle.variable_records.specs.declared.PermVarAllocation.TheVariants.{Done, Pending}
use Rattle.variable_records.specs.declared.VarAlloc.{VarAlloc}
use Rattle.variable_records.specs.declared.VarAlloc.TheVariants.{Temp as Temporary, Perm as Permanent}
use Rattle.variable_records.specs.Rows.{record_at}
use Rattle.shallow_temp_mappings.specs.Mappings.{mapped_at}
use Rattle.branch_stack.specs.BranchStack.{current_branch}
use Rattle.allocator_state.specs.declared.Counters.{Counters}
use Rattle.evacuation.specs.declared.Hint.{Hint}
use Rattle.evacuation.specs.declared.Hint.TheVariants.{Stays, Moves, NoRegister as Nowhere}
use Rattle.restricting_sets.specs.declared.VariableSets.{VariableSets}
use Rattle.evacuation.specs.Evacuation.{Evacuation, hint}
use Rattle.allocation.specs.Allocation.{Placement, non_var, slot_given, perm_placed}
use Rattle.record_marks.specs.declared.Valued.{Valued}
use Rattle.record_marks.specs.RecordMarks.{in_place, argument_value, subterm_value}
use Rattle.reserved_var.specs.ReservedVar.{safe_made, met, others_out}
use Rattle.marks.specs.Marks.{RegisterPlacement, register_placed}
use Rattle.reserved_var.specs.declared.Mark.{Mark}
use Rattle.other_marks.specs.OtherMarks.{turn_taken, is_argument}
use Rattle.events.specs.declared.Event.{Event}
use Rattle.events.specs.declared.Event.TheVariants.{Temp, Perm, Sets as PopulateSets, Head, Args, Var, Anon, NonVar, Cut, Incr, Free, Safe, Give, Tail, Next, Open, Arm, Take, Close, Reset, Contents, ClearFree}
use Rattle.debray_allocator.specs.declared.State.{State}
use Rattle.refusals.specs.Refusals.{is_refused}
use Rattle.refusals.specs.declared.Refusal.{Refusal}

-- nothing after a refusal
abbrev pub unless_after : Option Refusal → List Instruction → List Instruction
unless_after refusal instructions = if is_refused refusal then [] else instructions

-- ---- Evacuation

-- a value that moves to another register: one get_variable
abbrev pub move_makes : Hint → Counters → List Instruction
move_makes Stays c = []
move_makes Nowhere c = []
move_makes (Moves v r) c = if eqb r c.arg_c then [] else GetVariable (TempRegister r) c.arg_c ∷ []

unfoldable pub evacuation_makes : Counters → List ℕ → List ℕ → VariableSets → ℕ → List Instruction
evacuation_makes c records mappings s chunk = move_makes (hint c records mappings s chunk) c

-- a register for a new temporary
abbrev pub placing_makes : Counters → List ℕ → List ℕ → VariableSets → Level → GenContext → List Instruction
placing_makes c records mappings s Root context = []
placing_makes c records mappings s Deep context = []
placing_makes c records mappings s Shallow (Mid chunk) = []
placing_makes c records mappings s Shallow InHead = evacuation_makes c records mappings s 0
placing_makes c records mappings s Shallow (Last chunk) = evacuation_makes c records mappings s chunk

-- another variable than v in the argument's register
unfoldable pub others_make : Counters → List ℕ → List ℕ → VariableSets → ℕ → ℕ → List Instruction
others_make c records mappings s v chunk =
    if leb variables (mapped_at mappings c.arg_c) then []
    else if eqb (mapped_at mappings c.arg_c) v then []
    else evacuation_makes c records mappings s chunk

-- ---- A variable's own instruction

abbrev pub value_makes : Option Valued → List Instruction
value_makes (Some valued) = valued.instruction ∷ []
value_makes None = []

unfoldable pub argument_makes :
    Counters → List ℕ → List ℕ → Target → Level → GenContext → ℕ → RegType → Bool → Branch → List Instruction
argument_makes c records mappings target level context v place is_new branch =
    if in_place (record_at records v) context place c.arg_c then []
    else if is_new then
    unless_after
    (safe_made records mappings c.arg_c v level context branch).refusal
    (argument_to_variable target place c.arg_c ∷ [])
    else value_makes (argument_value (record_at records v) target place c.arg_c c.in_tail_position branch)

unfoldable pub subterm_makes :
    Counters → List ℕ → List ℕ → VariableSets → Target → GenContext → ℕ → RegType → Bool → Branch → List Instruction
subterm_makes c records mappings s target context v place is_new branch =
    if met records s context v place is_new then
    value_makes (subterm_value (record_at records v) target place branch)
    else
    unless_after
    (safe_made records mappings c.arg_c v Deep context branch).refusal
    (subterm_to_variable target place ∷ [])

-- ---- A variable

-- an argument after the evacuation e
unfoldable pub after_makes : Evacuation → Target → Level → GenContext → ℕ → RegType → Bool → Branch → List Instruction
after_makes e target level context v place is_new branch =
    unless_after
    e.reached.refusal
    (argument_makes e.reached.counters e.records e.mappings target level context v place is_new branch)

module _ (c : Counters) (records mappings : List ℕ) (s : VariableSets) (mark : Mark) where
  -- the evacuation, then the argument
  unfoldable pub argument_mark_makes : Level → RegType → Bool → Branch → List Instruction
  argument_mark_makes level place is_new branch =
      others_make c records mappings s mark.variable (chunk_num mark.context)
      ++ after_makes
      (others_out c records mappings s mark.variable (chunk_num mark.context) Empty)
      mark.target
      level
      mark.context
      mark.variable
      place
      is_new
      branch

  abbrev pub level_makes : Level → RegType → Bool → Branch → List Instruction
  level_makes Deep place is_new branch =
      subterm_makes c records mappings s mark.target mark.context mark.variable place is_new branch
  level_makes Root place is_new branch = argument_mark_makes Root place is_new branch
  level_makes Shallow place is_new branch = argument_mark_makes Shallow place is_new branch

  -- a variable whose place is known
  abbrev pub known_makes : List ℕ → RegType → Bool → List Instruction
  known_makes rows place is_new = level_makes mark.level place is_new (current_branch rows c.open_branches)

-- a new temporary, with its register p
unfoldable pub register_makes : RegisterPlacement → VariableSets → List ℕ → Mark → List Instruction
register_makes p s rows mark =
    unless_after
    p.placed.reached.refusal
    (known_makes p.placed.reached.counters p.records p.mappings s mark rows (TempRegister p.placed.place) true)

-- a new permanent variable, with its slot p
unfoldable pub new_slot_makes : Placement → List ℕ → VariableSets → List ℕ → Mark → List Instruction
new_slot_makes p mappings s rows mark =
    unless_after
    p.placed.refusal
    (known_makes p.placed.counters p.records mappings s mark rows (PermSlot p.placed.place) true)

module _ (c : Counters) (records mappings : List ℕ) (s : VariableSets) (rows : List ℕ) (mark : Mark) where
  -- the evacuation for its register, then the variable
  unfoldable pub new_temporary_makes : List Instruction
  new_temporary_makes =
      placing_makes c records mappings s mark.level mark.context
      ++ register_makes (register_placed c records mappings s mark.variable mark.level mark.context Empty) s rows mark

  abbrev pub slot_makes : ℕ → PermVarAllocation → List Instruction
  slot_makes slot Pending = known_makes c (slot_given records mark.variable slot) mappings s mark rows (PermSlot slot) true
  slot_makes slot (Done shallow deep) = known_makes c records mappings s mark rows (PermSlot slot) false

  abbrev pub variable_makes : VarAlloc → List ℕ → List Instruction
  variable_makes (Temporary context register safety to_perm) list =
      if eqb register 0 then new_temporary_makes else known_makes c records mappings s mark rows (TempRegister register) false
  variable_makes (Permanent slot allocation) list =
      if eqb slot 0 then
      new_slot_makes (perm_placed c records list mark.variable (chunk_num mark.context)) mappings s rows mark
      else slot_makes slot allocation

  unfoldable pub var_makes : List ℕ → List Instruction
  var_makes list = variable_makes (record_at records mark.variable).allocation list

-- ---- What is no ordinary occurrence of a variable

module _ (c : Counters) (records mappings : List ℕ) (s : VariableSets) where
  -- an argument's turn evacuates only in `l`
  abbrev pub turn_makes : GenContext → List Instruction
  turn_makes InHead = []
  turn_makes (Mid chunk) = []
  turn_makes (Last chunk) = evacuation_makes c records mappings s chunk

  unfoldable pub anon_placed_makes : Target → Level → GenContext → RegType → List Instruction
  anon_placed_makes target level context place =
      if is_argument level then
      turn_makes context
      ++ unless_after
      (turn_taken c records mappings s context).reached.refusal
      (argument_to_variable target place c.arg_c ∷ [])
      else subterm_to_variable target place ∷ []

  abbrev pub anon_chosen_makes : Option ℕ → Target → Level → GenContext → List Instruction
  anon_chosen_makes None target level context = []
  anon_chosen_makes (Some r) target level context = anon_placed_makes target level context (TempRegister r)

  abbrev pub non_var_makes : Level → GenContext → List Instruction
  non_var_makes Root context = []
  non_var_makes Deep context = []
  non_var_makes Shallow context = turn_makes context

unfoldable pub anon_makes : Counters → List ℕ → List ℕ → VariableSets → List ℕ → Target → Level → GenContext → List Instruction
anon_makes c records mappings s list target level context =
    anon_chosen_makes (non_var c list).counters records mappings s (non_var c list).chosen target level context

-- ---- An event

-- rule 16.2: only a mark makes instructions, and that of a cut's variable, rule 13.5, makes none
module _ (s : State) where
  abbrev pub event_makes : Event → List Instruction
  event_makes (Temp context occurrences) = []
  event_makes (Perm occurrences) = []
  event_makes PopulateSets = []
  event_makes Head = []
  event_makes (Args count) = []
  event_makes (Var target level context v) = var_makes s.counters s.records s.mappings s.sets s.branches.rows (record { target = target; level = level; context = context; variable = v }) s.freed_slots
  event_makes (Anon target level context) = anon_makes s.counters s.records s.mappings s.sets s.freed_registers target level context
  event_makes (NonVar level context cell) = non_var_makes s.counters s.records s.mappings s.sets level context
  event_makes (Cut v chunk) = []
  event_makes (Incr v) = []
  event_makes (Free chunk v) = []
  event_makes (Safe v) = []
  event_makes (Give r) = []
  event_makes (Tail tail) = []
  event_makes Next = []
  event_makes (Open start span arms) = []
  event_makes (Arm start span) = []
  event_makes Take = []
  event_makes (Close depth) = []
  event_makes Reset = []
  event_makes Contents = []
  event_makes ClearFree = []

-- Laws of the instructions that whole marks make: a mark begins with none, and puts each of its own behind the others.
use Rattle.std.specs.Prelude.{Option, Some, None, ℕ, ◌≤◌, ◌<◌, ◌≡◌, Bool, eqb, length}
use Rattle.std.proofs.Math.Path.{refl, ap}
use Rattle.std.proofs.Common.{◌∙◌, arith}
use Rattle.std.proofs.Math.Bool.{true, false}
use mathlib.Core.List.{List, [], ◌∷◌}
use Rattle.registers.specs.declared.RegType.{RegType}
use Rattle.registers.specs.declared.RegType.TheVariants.{Temp as TempRegister, Perm as PermSlot}
use Rattle.instructions.specs.declared.Instruction.{Instruction}
use Rattle.targets.specs.declared.Target.{Target}
use Rattle.targets.specs.Targets.{argument_to_variable, subterm_to_variable}
use Rattle.code_deque.specs.declared.CodeDeque.{CodeDeque}
use Rattle.code_deque.specs.declared.CodeDeque.TheVariants.{Empty}
use Rattle.code_deque.specs.CodeDeque.{code_list}
use Rattle.forms.specs.declared.GenContext.{GenContext}
use Rattle.forms.specs.declared.GenContext.TheVariants.{Head, Mid, Last}
use Rattle.forms.specs.declared.Level.{Level}
use Rattle.forms.specs.declared.Level.TheVariants.{Root, Shallow, Deep}
use Rattle.forms.specs.Forms.{chunk_num}
use Rattle.variable_records.specs.declared.PermVarAllocation.{PermVarAllocation}
use Rattle.variable_records.specs.declared.PermVarAllocation.TheVariants.{Done, Pending}
use Rattle.variable_records.specs.declared.VarAlloc.{VarAlloc}
use Rattle.variable_records.specs.declared.VarAlloc.TheVariants.{Temp, Perm}
use Rattle.variable_records.specs.declared.VariableRecord.{VariableRecord}
use Rattle.variable_records.specs.Rows.{record_at}
use Rattle.branch_stack.specs.BranchStack.{current_branch}
use Rattle.allocator_state.specs.declared.Counters.{Counters}
use Rattle.evacuation.specs.declared.Reached.{Reached}
use Rattle.restricting_sets.specs.declared.VariableSets.{VariableSets}
use Rattle.evacuation.specs.Evacuation.{Evacuation, going_on}
use Rattle.allocation.specs.Allocation.{Placement, non_var, slot_given, perm_placed}
use Rattle.marks.specs.declared.Marked.{Marked}
use Rattle.marks.specs.Marks.{RegisterPlacement, register_placed}
use Rattle.reserved_var.specs.declared.Mark.{Mark}
use Rattle.mark_var.specs.MarkVar.{Noted, noted, Marking, finished_after, finished, instructed_for, reserved_after, reserved_marked}
use Rattle.mark_var.specs.MarkVar.{VarMark, marked_at, new_temporary_after, new_temporary_marked, new_slot_after, new_slot_marked, slot_marked}
use Rattle.mark_var.specs.MarkVar.{temporary_marked, permanent_marked, marked_by, var_marked}
use Rattle.other_marks.specs.OtherMarks.{emptied_in, turn_taken, marked_at as term_at, instructed_at, MarkOf, anon_argument, is_argument, anon_placed}
use Rattle.other_marks.specs.OtherMarks.{anon_chosen, anon_marked, term_chosen, term_marked, cell_marked, non_var_argument, non_var_marked}
use Rattle.other_marks.specs.OtherMarks.{CutOf, slot_cut_by, slot_cut, register_cut_by, register_cut, cut_as, cut_marked}
use Rattle.rules.specs.StepsLaws.{either_way}
use Rattle.rules.specs.InstructionsMade.{unless_after, placing_makes, known_makes, register_makes, new_slot_makes, new_temporary_makes, slot_makes}
use Rattle.rules.specs.InstructionsMade.{variable_makes, var_makes, turn_makes, anon_placed_makes, anon_chosen_makes, non_var_makes, anon_makes}
use Rattle.rules.specs.MadeLaws.{made, pushed-below_three, Behind}
use Rattle.rules.proofs.BehindLaws.{none-behind, behind-both, made-behind, both_ways, advanced-code}
use Rattle.rules.proofs.BehindLaws.{evacuation_short, evacuated-behind, register-behind, level-behind}
use Rattle.refusals.specs.Refusals.{is_refused}

-- ---- A variable whose place is known

-- what follows the instruction makes none
finished_after-code :
    (n : Noted) (c : Counters) (records list : List ℕ) (v : ℕ) (context : GenContext) (place : RegType) (code : CodeDeque)
    → (finished_after n c records list v context place code).reached.code ≡ code
unfolding finished_after
finished_after-code n c records list v context place code =
    either_way (λ (m : Marking). m.reached.code ≡ code) (is_refused n.refusal) refl refl

module _ (list rows branch_sets : List ℕ) (mark : Mark) where
  finished-code :
      (c : Counters) (records mappings : List ℕ) (place : RegType) (is_new : Bool) (code : CodeDeque)
      → (finished c records mappings list rows branch_sets mark.variable mark.context place is_new code).reached.code ≡ code
  unfolding finished
  finished-code c records mappings place is_new code =
      finished_after-code (noted mappings rows branch_sets c.open_branches mark.variable place is_new)
      c records list mark.variable mark.context place code

  reserved_code :
      (e : Evacuation) (place : RegType) (is_new : Bool)
      → (reserved_after e list rows branch_sets mark place is_new).reached.code ≡ e.reached.code
  unfolding reserved_after
  reserved_code e place is_new =
      either_way (λ (m : Marking). m.reached.code ≡ e.reached.code) (is_refused e.reached.refusal) refl
      (finished-code e.reached.counters e.records e.mappings place is_new e.reached.code)

-- ---- A variable

abbrev BehindVar : CodeDeque → VarMark → List Instruction → Type 0
BehindVar code m instructions = Behind code instructions m.marked.reached.code

placing_short :
    (c : Counters) (records mappings : List ℕ) (s : VariableSets) (level : Level) (context : GenContext)
    → length (placing_makes c records mappings s level context) ≤ 1
placing_short c records mappings s Root context = omega arith
placing_short c records mappings s Deep context = omega arith
placing_short c records mappings s Shallow (Mid chunk) = omega arith
placing_short c records mappings s Shallow Head = evacuation_short c records mappings s 0
placing_short c records mappings s Shallow (Last chunk) = evacuation_short c records mappings s chunk

-- one evacuation at most before a new temporary's register is chosen
pub register-made :
    (c : Counters) (records mappings : List ℕ) (s : VariableSets) (v : ℕ) (level : Level) (context : GenContext)
    → made (register_placed c records mappings s v level context Empty).placed.reached.code ≤ 1
register-made c records mappings s v level context =
    omega (
      arith,
      made-behind [] (placing_makes c records mappings s level context) (register-behind s v c records mappings Empty (omega arith) level context),
      placing_short c records mappings s level context,
    )

module _ (s : VariableSets) (list rows branch_sets : List ℕ) (mark : Mark) where
  known_behind :
      (c : Counters) (records mappings : List ℕ) (place : RegType) (is_new : Bool) (code : CodeDeque) → made code ≤ 1
      → BehindVar code
      (marked_at c records mappings s list rows branch_sets mark place is_new code)
      (known_makes c records mappings s mark rows place is_new)
  unfolding marked_at reserved_marked
  known_behind c records mappings place is_new code room =
      ap code_list (reserved_code list rows branch_sets mark (instructed_for c records mappings s rows mark place is_new code) place is_new)
      ∙ level-behind c records mappings s mark place is_new (current_branch rows c.open_branches) code room mark.level

  register_mark_behind :
      (p : RegisterPlacement) → made p.placed.reached.code ≤ 1
      → BehindVar p.placed.reached.code (new_temporary_after p s list rows branch_sets mark) (register_makes p s rows mark)
  unfolding new_temporary_after register_makes
  register_mark_behind p room =
      both_ways (BehindVar p.placed.reached.code) (is_refused p.placed.reached.refusal) (none-behind p.placed.reached.code)
      (known_behind p.placed.reached.counters p.records p.mappings (TempRegister p.placed.place) true p.placed.reached.code room)

  new_slot-behind :
      (p : Placement) (mappings : List ℕ)
      → BehindVar Empty (new_slot_after p mappings s list rows branch_sets mark) (new_slot_makes p mappings s rows mark)
  unfolding new_slot_after new_slot_makes
  new_slot-behind p mappings =
      both_ways (BehindVar Empty) (is_refused p.placed.refusal) refl
      (known_behind p.placed.counters p.records mappings (PermSlot p.placed.place) true Empty (omega arith))

  module _ (c : Counters) (records mappings : List ℕ) where
    new_temporary-behind :
        BehindVar Empty
        (new_temporary_marked c records mappings s list rows branch_sets mark)
        (new_temporary_makes c records mappings s rows mark)
    unfolding new_temporary_marked new_temporary_makes
    new_temporary-behind =
        let p = register_placed c records mappings s mark.variable mark.level mark.context Empty in
        behind-both []
        (placing_makes c records mappings s mark.level mark.context)
        (register_makes p s rows mark)
        (register-behind s mark.variable c records mappings Empty (omega arith) mark.level mark.context)
        (register_mark_behind p (register-made c records mappings s mark.variable mark.level mark.context))

    slot_behind :
        (slot : ℕ) (allocation : PermVarAllocation)
        → BehindVar Empty
        (slot_marked c records mappings s list rows branch_sets mark slot allocation)
        (slot_makes c records mappings s rows mark slot allocation)
    slot_behind slot Pending =
        known_behind c (slot_given records mark.variable slot) mappings (PermSlot slot) true Empty (omega arith)
    slot_behind slot (Done shallow deep) = known_behind c records mappings (PermSlot slot) false Empty (omega arith)

    marked_by-behind :
        (allocation : VarAlloc)
        → BehindVar Empty
        (marked_by allocation c records mappings s list rows branch_sets mark)
        (variable_makes c records mappings s rows mark allocation list)
    unfolding temporary_marked permanent_marked new_slot_marked
    marked_by-behind (Temp context register safety to_perm) =
        both_ways (BehindVar Empty) (eqb register 0) new_temporary-behind
        (known_behind c records mappings (TempRegister register) false Empty (omega arith))
    marked_by-behind (Perm slot allocation) =
        both_ways (BehindVar Empty) (eqb slot 0)
        (new_slot-behind (perm_placed c records list mark.variable (chunk_num mark.context)) mappings)
        (slot_behind slot allocation)

    pub var_made :
        code_list (var_marked c records mappings s list rows branch_sets mark).marked.reached.code
        ≡ var_makes c records mappings s rows mark list
    unfolding var_marked var_makes
    var_made = marked_by-behind (record_at records mark.variable).allocation

-- ---- An anonymous variable, and a term that is no variable

abbrev BehindMarked : CodeDeque → Marked → List Instruction → Type 0
BehindMarked code m instructions = Behind code instructions m.reached.code

instructed_at-behind :
    (reached : Reached) (i : Instruction) (place : RegType) → made reached.code < 3
    → BehindMarked reached.code (instructed_at reached i place) (unless_after reached.refusal (i ∷ []))
unfolding instructed_at
instructed_at-behind reached i place room =
    both_ways (BehindMarked reached.code) (is_refused reached.refusal) (none-behind reached.code) (pushed-below_three reached.code i room)

term_at_code : (reached : Reached) (place : RegType) → (term_at reached place).reached.code ≡ reached.code
unfolding term_at
term_at_code reached place = either_way (λ (m : Marked). m.reached.code ≡ reached.code) (is_refused reached.refusal) refl refl

module _ (c : Counters) (records mappings : List ℕ) (s : VariableSets) where
  emptied_behind : (context : GenContext) → Behind Empty (turn_makes c records mappings s context) (emptied_in context c records mappings s).reached.code
  emptied_behind Head = refl
  emptied_behind (Mid chunk) = refl
  emptied_behind (Last chunk) = evacuated-behind c records mappings s Empty (omega arith) chunk

  turn_behind : (context : GenContext) → Behind Empty (turn_makes c records mappings s context) (turn_taken c records mappings s context).reached.code
  unfolding turn_taken
  turn_behind context = ap code_list (advanced-code (emptied_in context c records mappings s).reached) ∙ emptied_behind context

  turn_short : (context : GenContext) → length (turn_makes c records mappings s context) ≤ 1
  turn_short Head = omega arith
  turn_short (Mid chunk) = omega arith
  turn_short (Last chunk) = evacuation_short c records mappings s chunk

  -- fewer than three, where an anonymous variable's own instruction follows
  pub turn_made : (context : GenContext) → made (turn_taken c records mappings s context).reached.code ≤ 1
  turn_made context =
      omega (arith, made-behind [] (turn_makes c records mappings s context) (turn_behind context), turn_short context)

  anon_placed-behind :
      (target : Target) (level : Level) (context : GenContext) (place : RegType)
      → code_list (anon_placed c records mappings s target level context place).marked.reached.code
      ≡ anon_placed_makes c records mappings s target level context place
  unfolding anon_placed anon_argument anon_placed_makes
  anon_placed-behind target level context place =
      let turn = turn_taken c records mappings s context in
      both_ways (λ (m : MarkOf) (l : List Instruction). code_list m.marked.reached.code ≡ l) (is_argument level)
      (behind-both []
      (turn_makes c records mappings s context)
      (unless_after turn.reached.refusal (argument_to_variable target place c.arg_c ∷ []))
      (turn_behind context)
      (instructed_at-behind turn.reached (argument_to_variable target place c.arg_c) place (omega (arith, turn_made context))))
      (instructed_at-behind (going_on c Empty) (subterm_to_variable target place) place (omega arith))

  anon_chosen-behind :
      (choice : Option ℕ) (target : Target) (level : Level) (context : GenContext)
      → code_list (anon_chosen choice c records mappings s target level context).marked.reached.code
      ≡ anon_chosen_makes c records mappings s choice target level context
  anon_chosen-behind None target level context = refl
  anon_chosen-behind (Some r) target level context = anon_placed-behind target level context (TempRegister r)

  non_var_argument-behind :
      (context : GenContext)
      → code_list (non_var_argument c records mappings s context).marked.reached.code ≡ turn_makes c records mappings s context
  unfolding non_var_argument
  non_var_argument-behind context =
      ap code_list (term_at_code (turn_taken c records mappings s context).reached (TempRegister c.arg_c)) ∙ turn_behind context

pub anon_made :
    (c : Counters) (records mappings : List ℕ) (s : VariableSets) (list : List ℕ) (target : Target) (level : Level) (context : GenContext)
    → code_list (anon_marked c records mappings s list target level context).marked.reached.code
    ≡ anon_makes c records mappings s list target level context
unfolding anon_marked anon_makes
anon_made c records mappings s list target level context =
    anon_chosen-behind (non_var c list).counters records mappings s (non_var c list).chosen target level context

abbrev NoneMade : Marked → Type 0
NoneMade m = m.reached.code ≡ Empty

term_chosen-none : (choice : Option ℕ) (c : Counters) → NoneMade (term_chosen choice c)
term_chosen-none None c = refl
term_chosen-none (Some r) c = refl

cell-none : (c : Counters) (list : List ℕ) (cell : ℕ) → NoneMade (cell_marked c list cell)
unfolding cell_marked term_marked
cell-none c list cell = either_way NoneMade (eqb cell 0) (term_chosen-none (non_var c list).chosen (non_var c list).counters) refl

pub non_var-made :
    (c : Counters) (records mappings : List ℕ) (s : VariableSets) (list : List ℕ) (level : Level) (context : GenContext) (cell : ℕ)
    → code_list (non_var_marked c records mappings s list level context cell).marked.reached.code
    ≡ non_var_makes c records mappings s level context
unfolding non_var_marked
non_var-made c records mappings s list Root context cell = ap code_list (cell-none c list cell)
non_var-made c records mappings s list Deep context cell = ap code_list (cell-none c list cell)
non_var-made c records mappings s list Shallow context cell = non_var_argument-behind c records mappings s context

-- ---- The variable of a cut

abbrev NoneCut : CutOf → Type 0
NoneCut m = NoneMade m.marked

slot_cut-none : (p : Placement) → NoneCut (slot_cut_by p)
unfolding slot_cut_by
slot_cut-none p = either_way NoneCut (is_refused p.placed.refusal) refl refl

register_cut-none :
    (choice : Option ℕ) (c : Counters) (records : List ℕ) (v : ℕ) (variable : VariableRecord) (context : GenContext) (to_perm : ℕ)
    → NoneCut (register_cut_by choice c records v variable context to_perm)
register_cut-none None c records v variable context to_perm = refl
register_cut-none (Some r) c records v variable context to_perm = refl

module _ (c : Counters) (records perm_list list : List ℕ) (v chunk : ℕ) where
  cut_as-none : (allocation : VarAlloc) → NoneCut (cut_as allocation c records perm_list list v chunk)
  unfolding cut_as slot_cut register_cut
  cut_as-none (Perm slot allocation) = either_way NoneCut (eqb slot 0) (slot_cut-none (perm_placed c records perm_list v chunk)) refl
  cut_as-none (Temp context register safety to_perm) =
      either_way NoneCut (eqb register 0)
      (register_cut-none (non_var c list).chosen (non_var c list).counters records v (record_at records v) context to_perm)
      refl

  pub cut_made : (cut_marked c records perm_list list v chunk).marked.reached.code ≡ Empty
  unfolding cut_marked
  cut_made = cut_as-none (record_at records v).allocation

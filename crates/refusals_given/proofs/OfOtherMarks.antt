-- What `anon`, `nonvar` and `cut` can be given in any state: rules 4.5, 4.6.
use Rattle.std.specs.Prelude.{Option, Some, None, ℕ, List, eqb}
use Rattle.notation.specs.ChoiceLaws.{either}
use Rattle.refusals.specs.declared.Refusal.{Refusal}
use Rattle.refusals.specs.Refusals.{accepted, refused_register, refused_slot, is_refused}
use Rattle.registers.specs.declared.RegType.{RegType}
use Rattle.registers.specs.declared.RegType.TheVariants.{Temp as TempRegister}
use Rattle.instructions.specs.declared.Instruction.{Instruction}
use Rattle.targets.specs.declared.Target.{Target}
use Rattle.code_deque.specs.declared.CodeDeque.TheVariants.{Empty}
use Rattle.forms.specs.declared.GenContext.{GenContext}
use Rattle.forms.specs.declared.GenContext.TheVariants.{Head, Mid, Last}
use Rattle.forms.specs.declared.Level.{Level}
use Rattle.forms.specs.declared.Level.TheVariants.{Root, Shallow, Deep}
use Rattle.variable_records.specs.declared.VarAlloc.{VarAlloc}
use Rattle.variable_records.specs.declared.VarAlloc.TheVariants.{Temp, Perm}
use Rattle.variable_records.specs.declared.VariableRecord.{VariableRecord}
use Rattle.variable_records.specs.Rows.{record_at}
use Rattle.allocator_state.specs.declared.Counters.{Counters}
use Rattle.evacuation.specs.declared.Reached.{Reached}
use Rattle.restricting_sets.specs.declared.VariableSets.{VariableSets}
use Rattle.evacuation.specs.Evacuation.{going_on}
use Rattle.allocation.specs.Allocation.{Placement, non_var, perm_placed}
use Rattle.marks.specs.declared.Marked.{Marked}
use Rattle.other_marks.specs.OtherMarks.{MarkOf, CutOf, emptied_in, turn_taken, marked_at, instructed_at, is_argument}
use Rattle.other_marks.specs.OtherMarks.{anon_argument, anon_placed, anon_chosen, anon_marked, term_chosen, term_marked, cell_marked, non_var_argument, non_var_marked}
use Rattle.other_marks.specs.OtherMarks.{slot_cut_by, slot_cut, register_cut_by, register_cut, cut_as, cut_marked}
use Rattle.refusals_given.proofs.OfReservedVar.{EvacuationGiven, advanced_given, evacuated_given}
use Rattle.refusals_given.proofs.OfMarkVar.{PlacementGiven, perm_placed_given}

module _ (P : Option Refusal → Type 0) where
  abbrev MarkedGiven : Marked → Type 0
  MarkedGiven m = P m.reached.refusal

  abbrev pub MarkGiven : MarkOf → Type 0
  MarkGiven m = P m.marked.reached.refusal

  abbrev pub CutGiven : CutOf → Type 0
  CutGiven m = P m.marked.reached.refusal

module _ (P : Option Refusal → Type 0) (none : P accepted) (register : P refused_register) where
  -- ---- An instruction, or none

  marked_at_given : (reached : Reached) (place : RegType) → P reached.refusal → MarkedGiven P (marked_at reached place)
  unfolding marked_at
  marked_at_given reached place given = either (MarkedGiven P) (is_refused reached.refusal) given given

  instructed_given :
      (reached : Reached) (instruction : Instruction) (place : RegType) → P reached.refusal
      → MarkedGiven P (instructed_at reached instruction place)
  unfolding instructed_at
  instructed_given reached instruction place given = either (MarkedGiven P) (is_refused reached.refusal) given none

  module _ (records mappings : List ℕ) (s : VariableSets) where
    emptied_given : (context : GenContext) (c : Counters) → EvacuationGiven P (emptied_in context c records mappings s)
    emptied_given Head c = none
    emptied_given (Mid chunk) c = none
    emptied_given (Last chunk) c = evacuated_given P none register c records mappings s chunk Empty

    turn_given : (context : GenContext) (c : Counters) → EvacuationGiven P (turn_taken c records mappings s context)
    unfolding turn_taken
    turn_given context c = advanced_given P none (emptied_in context c records mappings s).reached (emptied_given context c)

    -- ---- An anonymous variable

    anon_argument_given :
        (target : Target) (context : GenContext) (place : RegType) (c : Counters)
        → MarkGiven P (anon_argument c records mappings s target context place)
    unfolding anon_argument
    anon_argument_given target context place c =
        instructed_given (turn_taken c records mappings s context).reached _ place (turn_given context c)

    anon_placed_given :
        (target : Target) (level : Level) (context : GenContext) (place : RegType) (c : Counters)
        → MarkGiven P (anon_placed c records mappings s target level context place)
    unfolding anon_placed
    anon_placed_given target level context place c =
        either (MarkGiven P) (is_argument level) (anon_argument_given target context place c)
        (instructed_given (going_on c Empty) _ place none)

    anon_chosen_given :
        (choice : Option ℕ) (target : Target) (level : Level) (context : GenContext) (c : Counters)
        → MarkGiven P (anon_chosen choice c records mappings s target level context)
    anon_chosen_given None target level context c = register
    anon_chosen_given (Some r) target level context c = anon_placed_given target level context (TempRegister r) c

    pub anon_marked_given :
        (list : List ℕ) (target : Target) (level : Level) (context : GenContext) (c : Counters)
        → MarkGiven P (anon_marked c records mappings s list target level context)
    unfolding anon_marked
    anon_marked_given list target level context c =
        anon_chosen_given (non_var c list).chosen target level context (non_var c list).counters

    -- ---- A term that is no variable

    term_chosen_given : (choice : Option ℕ) (c : Counters) → MarkedGiven P (term_chosen choice c)
    term_chosen_given None c = register
    term_chosen_given (Some r) c = none

    cell_marked_given : (list : List ℕ) (cell : ℕ) (c : Counters) → MarkedGiven P (cell_marked c list cell)
    unfolding cell_marked term_marked
    cell_marked_given list cell c =
        either (MarkedGiven P) (eqb cell 0) (term_chosen_given (non_var c list).chosen (non_var c list).counters) none

    non_var_argument_given : (context : GenContext) (c : Counters) → MarkGiven P (non_var_argument c records mappings s context)
    unfolding non_var_argument
    non_var_argument_given context c = marked_at_given (turn_taken c records mappings s context).reached _ (turn_given context c)

    pub non_var_marked_given :
        (list : List ℕ) (level : Level) (context : GenContext) (cell : ℕ) (c : Counters)
        → MarkGiven P (non_var_marked c records mappings s list level context cell)
    unfolding non_var_marked
    non_var_marked_given list Root context cell c = cell_marked_given list cell c
    non_var_marked_given list Deep context cell c = cell_marked_given list cell c
    non_var_marked_given list Shallow context cell c = non_var_argument_given context c

  -- ---- The variable of a cut

  module _ (slot : P refused_slot) where
    slot_cut_by_given : (p : Placement) → PlacementGiven P p → CutGiven P (slot_cut_by p)
    unfolding slot_cut_by
    slot_cut_by_given p given = either (CutGiven P) (is_refused p.placed.refusal) given none

    register_cut_by_given :
        (choice : Option ℕ) (c : Counters) (records : List ℕ) (v : ℕ) (variable : VariableRecord) (context : GenContext) (to_perm : ℕ)
        → CutGiven P (register_cut_by choice c records v variable context to_perm)
    register_cut_by_given None c records v variable context to_perm = register
    register_cut_by_given (Some r) c records v variable context to_perm = none

    cut_as_given :
        (allocation : VarAlloc) (c : Counters) (records perm_list list : List ℕ) (v chunk : ℕ)
        → CutGiven P (cut_as allocation c records perm_list list v chunk)
    unfolding cut_as slot_cut register_cut
    cut_as_given (Perm place allocation) c records perm_list list v chunk =
        either (CutGiven P) (eqb place 0)
        (slot_cut_by_given (perm_placed c records perm_list v chunk) (perm_placed_given P none slot c records perm_list v chunk)) none
    cut_as_given (Temp context r safety to_perm) c records perm_list list v chunk =
        either (CutGiven P) (eqb r 0)
        (register_cut_by_given (non_var c list).chosen (non_var c list).counters records v (record_at records v) context to_perm) none

    pub cut_marked_given :
        (c : Counters) (records perm_list list : List ℕ) (v chunk : ℕ) → CutGiven P (cut_marked c records perm_list list v chunk)
    unfolding cut_marked
    cut_marked_given c records perm_list list v chunk = cut_as_given (record_at records v).allocation c records perm_list list v chunk

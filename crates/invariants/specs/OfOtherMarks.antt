-- Every record stays of its kind, in a good place, where what is no ordinary occurrence of a variable is marked.
use Rattle.std.specs.Prelude.{Option, Some, None, ℕ, ◌%◌, true, false, List, eqb}
use Rattle.notation.specs.ChoiceLaws.{either}
use Rattle.sizes.specs.Sizes.{variables}
use Rattle.registers.specs.declared.RegType.{RegType}
use Rattle.registers.specs.declared.RegType.TheVariants.{Temp as TempRegister}
use Rattle.targets.specs.declared.Target.{Target}
use Rattle.code_deque.specs.declared.CodeDeque.TheVariants.{Empty}
use Rattle.forms.specs.declared.GenContext.{GenContext}
use Rattle.forms.specs.declared.GenContext.TheVariants.{Head, Mid, Last}
use Rattle.forms.specs.declared.Level.{Level}
use Rattle.forms.specs.declared.Level.TheVariants.{Root, Shallow, Deep}
use Rattle.variable_records.specs.declared.VarSafetyStatus.TheVariants.{GloballyUnneeded}
use Rattle.variable_records.specs.declared.VarAlloc.{VarAlloc}
use Rattle.variable_records.specs.declared.VarAlloc.TheVariants.{Temp, Perm}
use Rattle.variable_records.specs.declared.VariableRecord.{VariableRecord}
use Rattle.variable_records.specs.Records.{allocated}
use Rattle.variable_records.specs.Rows.{record_at}
use Rattle.allocator_state.specs.declared.Counters.{Counters}
use Rattle.restricting_sets.specs.declared.VariableSets.{VariableSets}
use Rattle.allocation.specs.Allocation.{Placement, non_var, perm_placed}
use Rattle.other_marks.specs.OtherMarks.{emptied_in, turn_taken, MarkOf, anon_argument, is_argument, anon_placed, anon_chosen, anon_marked}
use Rattle.other_marks.specs.OtherMarks.{non_var_argument, non_var_marked, CutOf, slot_cut_by, slot_cut, register_cut_by, register_cut, cut_as, cut_marked}
use Rattle.invariants.specs.Lists.{All}
use Rattle.invariants.specs.Kept.{Wanted, Holds, Kept, kept_at, kept_put}
use Rattle.invariants.specs.OfEvacuation.{GoodChoice, GoodUses, evacuated_keeps}
use Rattle.invariants.specs.OfAllocation.{GoodPlacement, non_var_good, perm_placed_good}
use Rattle.refusals.specs.Refusals.{is_refused}

module _ (k : Wanted) where
  -- ---- An anonymous variable, and a term that is no variable

  abbrev pub KeptOther : MarkOf → Type 0
  KeptOther m = Kept k m.records

  module _ (s : VariableSets) (good : GoodUses k s.use_sets) {records : List ℕ} (every : Kept k records) (mappings : List ℕ) where
    emptied_keeps : (context : GenContext) (c : Counters) → Kept k (emptied_in context c records mappings s).records
    emptied_keeps Head c = every
    emptied_keeps (Mid chunk) c = every
    emptied_keeps (Last chunk) c = evacuated_keeps k s good c mappings Empty every chunk

    turn_keeps : (context : GenContext) (c : Counters) → Kept k (turn_taken c records mappings s context).records
    unfolding turn_taken
    turn_keeps context c = emptied_keeps context c

    anon_argument_keeps :
        (c : Counters) (target : Target) (context : GenContext) (place : RegType)
        → KeptOther (anon_argument c records mappings s target context place)
    unfolding anon_argument
    anon_argument_keeps c target context place = turn_keeps context c

    anon_placed_keeps :
        (c : Counters) (target : Target) (level : Level) (context : GenContext) (place : RegType)
        → KeptOther (anon_placed c records mappings s target level context place)
    unfolding anon_placed
    anon_placed_keeps c target level context place =
        either KeptOther (is_argument level) (anon_argument_keeps c target context place) every

    anon_chosen_keeps :
        (choice : Option ℕ) (c : Counters) (target : Target) (level : Level) (context : GenContext)
        → KeptOther (anon_chosen choice c records mappings s target level context)
    anon_chosen_keeps None c target level context = every
    anon_chosen_keeps (Some r) c target level context = anon_placed_keeps c target level context (TempRegister r)

    pub anon_marked_keeps :
        (c : Counters) (list : List ℕ) (target : Target) (level : Level) (context : GenContext)
        → KeptOther (anon_marked c records mappings s list target level context)
    unfolding anon_marked
    anon_marked_keeps c list target level context =
        anon_chosen_keeps (non_var c list).chosen (non_var c list).counters target level context

    non_var_argument_keeps : (c : Counters) (context : GenContext) → KeptOther (non_var_argument c records mappings s context)
    unfolding non_var_argument
    non_var_argument_keeps c context = turn_keeps context c

    pub non_var_marked_keeps :
        (c : Counters) (list : List ℕ) (level : Level) (context : GenContext) (cell : ℕ)
        → KeptOther (non_var_marked c records mappings s list level context cell)
    unfolding non_var_marked
    non_var_marked_keeps c list Root context cell = every
    non_var_marked_keeps c list Deep context cell = every
    non_var_marked_keeps c list Shallow context cell = non_var_argument_keeps c context

  -- ---- The variable of a cut

  abbrev pub KeptCut : CutOf → Type 0
  KeptCut m = Kept k m.records

  slot_cut_by_keeps : (p : Placement) → GoodPlacement k p → KeptCut (slot_cut_by p)
  unfolding slot_cut_by
  slot_cut_by_keeps p g = either KeptCut (is_refused p.placed.refusal) g.0 g.0

  module _ {records : List ℕ} (every : Kept k records) (v : ℕ) where
    slot_cut_keeps :
        k.Kind (v % variables) false → (c : Counters) (perm_list : List ℕ) (chunk : ℕ)
        → KeptCut (slot_cut c records perm_list v chunk)
    unfolding slot_cut
    slot_cut_keeps permanent c perm_list chunk =
        slot_cut_by_keeps (perm_placed c records perm_list v chunk) (perm_placed_good k every v permanent c perm_list chunk)

    register_cut_by_keeps :
        (choice : Option ℕ) → GoodChoice k choice → k.Kind (v % variables) true
        → (c : Counters) (variable : VariableRecord) (context : GenContext) (to_perm : ℕ)
        → KeptCut (register_cut_by choice c records v variable context to_perm)
    register_cut_by_keeps None g temporary c variable context to_perm = every
    register_cut_by_keeps (Some r) g temporary c variable context to_perm =
        kept_put k every v (allocated variable (Temp context r GloballyUnneeded to_perm)) (temporary, g)

    module _ (c : Counters) (perm_list list : List ℕ) (chunk : ℕ) (given : All k.Good list) where
      register_cut_keeps :
          k.Kind (v % variables) true → (variable : VariableRecord) (context : GenContext) (to_perm : ℕ)
          → KeptCut (register_cut c records list v variable context to_perm)
      unfolding register_cut
      register_cut_keeps temporary variable context to_perm =
          register_cut_by_keeps (non_var c list).chosen (non_var_good k c list given) temporary (non_var c list).counters variable context to_perm

      cut_as_keeps :
          (allocation : VarAlloc) → Holds k (v % variables) allocation
          → KeptCut (cut_as allocation c records perm_list list v chunk)
      unfolding cut_as
      cut_as_keeps (Perm slot allocation) h = either KeptCut (eqb slot 0) (slot_cut_keeps h.0 c perm_list chunk) every
      cut_as_keeps (Temp context register safety to_perm) h =
          either KeptCut (eqb register 0) (register_cut_keeps h.0 (record_at records v) context to_perm) every

      pub cut_marked_keeps : KeptCut (cut_marked c records perm_list list v chunk)
      unfolding cut_marked
      cut_marked_keeps = cut_as_keeps (record_at records v).allocation (kept_at k every v)

-- A valid state stays valid where what is no ordinary occurrence of a variable is marked.
use Rattle.std.specs.Prelude.{Option, Some, None, ℕ, ◌<◌, ◌≡◌, false, List, eqb}
use native.Mathlib.Omega.{arith}
use borrow.Author.Tests.{eqb-false}
use Rattle.notation.specs.ChoiceLaws.{either, by_test}
use Rattle.refusals.specs.Refusals.{is_refused, accepted}
use Rattle.registers.specs.declared.RegType.{RegType}
use Rattle.registers.specs.declared.RegType.TheVariants.{Temp as TempRegister}
use Rattle.instructions.specs.declared.Instruction.{Instruction}
use Rattle.targets.specs.declared.Target.{Target}
use Rattle.code_deque.specs.declared.CodeDeque.TheVariants.{Empty}
use Rattle.forms.specs.declared.GenContext.{GenContext}
use Rattle.forms.specs.declared.GenContext.TheVariants.{Head, Mid, Last}
use Rattle.forms.specs.declared.Level.{Level}
use Rattle.forms.specs.declared.Level.TheVariants.{Root, Shallow, Deep}
use Rattle.variable_records.specs.declared.VarSafetyStatus.TheVariants.{GloballyUnneeded}
use Rattle.variable_records.specs.declared.VarAlloc.{VarAlloc}
use Rattle.variable_records.specs.declared.VarAlloc.TheVariants.{Temp, Perm}
use Rattle.variable_records.specs.Records.{allocated}
use Rattle.variable_records.specs.Rows.{record_at}
use Rattle.allocator_state.specs.declared.Counters.{Counters}
use Rattle.evacuation.specs.declared.Reached.{Reached}
use Rattle.restricting_sets.specs.declared.VariableSets.{VariableSets}
use Rattle.allocation.specs.Allocation.{Placement, non_var, perm_placed}
use Rattle.marks.specs.declared.Marked.{Marked}
use Rattle.other_marks.specs.OtherMarks.{emptied_in, turn_taken, marked_at, instructed_at, MarkOf, anon_argument, is_argument, anon_placed, anon_chosen, anon_marked}
use Rattle.other_marks.specs.OtherMarks.{term_chosen, term_marked, cell_marked, non_var_argument, non_var_marked, CutOf, slot_cut_by, slot_cut, register_cut_by, register_cut, cut_as, cut_marked}
use Rattle.valid_stays.specs.Fits.{Kinds, AllocFits, Valid, Uses}
use Rattle.valid_stays.proofs.RecordsFit.{record_fits}
use Rattle.valid_stays.proofs.Steps.{put_valid, used_valid}
use Rattle.valid_stays.proofs.OfEvacuation.{PlacedChoice, EvacuationValid, evacuated_valid}
use Rattle.valid_stays.proofs.OfAllocation.{PlacementValid, non_var_valid, perm_placed_valid}
use Rattle.valid_stays.proofs.OfRecordMarks.{allocated-fits}
use Rattle.valid_stays.proofs.OfReservedVar.{advanced_valid}

module _ (k : Kinds) (records mappings queue freed rows sets : List ℕ) where
  abbrev MarkedValid : Marked → Type 0
  MarkedValid m = Valid k m.reached.counters records mappings queue freed rows sets

module _ (k : Kinds) (queue freed rows sets : List ℕ) where
  abbrev pub MarkValid : MarkOf → Type 0
  MarkValid m = Valid k m.marked.reached.counters m.records m.mappings queue freed rows sets

module _ (k : Kinds) (mappings queue freed rows sets : List ℕ) where
  abbrev pub CutValid : CutOf → Type 0
  CutValid m = Valid k m.marked.reached.counters m.records mappings queue freed rows sets

-- ---- An instruction, or none

module _ (k : Kinds) {records mappings queue freed rows sets : List ℕ} (reached : Reached)
    (h : Valid k reached.counters records mappings queue freed rows sets) (place : RegType) where
  marked_at_valid : MarkedValid k records mappings queue freed rows sets (marked_at reached place)
  unfolding marked_at
  marked_at_valid = either (MarkedValid k records mappings queue freed rows sets) (is_refused reached.refusal) h h

  instructed_valid : (instruction : Instruction) → MarkedValid k records mappings queue freed rows sets (instructed_at reached instruction place)
  unfolding instructed_at
  instructed_valid instruction = either (MarkedValid k records mappings queue freed rows sets) (is_refused reached.refusal) h h

-- ---- An anonymous variable, and a term that is no variable

module _ (k : Kinds) (s : VariableSets) (fit : Uses k s.use_sets s.use_counts) where
  module _ {c : Counters} {records mappings queue freed rows sets : List ℕ} (h : Valid k c records mappings queue freed rows sets) where
    emptied_valid : (context : GenContext) → EvacuationValid k queue freed rows sets (emptied_in context c records mappings s)
    emptied_valid Head = h
    emptied_valid (Mid chunk) = h
    emptied_valid (Last chunk) = evacuated_valid k s fit h chunk Empty

    turn_valid : (context : GenContext) → EvacuationValid k queue freed rows sets (turn_taken c records mappings s context)
    unfolding turn_taken
    turn_valid context = let e = emptied_valid context in advanced_valid k e (emptied_in context c records mappings s).reached e

    anon_argument_valid :
        (target : Target) (context : GenContext) (place : RegType)
        → MarkValid k queue freed rows sets (anon_argument c records mappings s target context place)
    unfolding anon_argument
    anon_argument_valid target context place =
        instructed_valid k (turn_taken c records mappings s context).reached (turn_valid context) place _

    anon_placed_valid :
        (target : Target) (level : Level) (context : GenContext) (place : RegType)
        → MarkValid k queue freed rows sets (anon_placed c records mappings s target level context place)
    unfolding anon_placed
    anon_placed_valid target level context place =
        either (MarkValid k queue freed rows sets) (is_argument level) (anon_argument_valid target context place)
        (instructed_valid k (record { counters = c; code = Empty; refusal = accepted }) h place _)

    non_var_argument_valid : (context : GenContext) → MarkValid k queue freed rows sets (non_var_argument c records mappings s context)
    unfolding non_var_argument
    non_var_argument_valid context = marked_at_valid k (turn_taken c records mappings s context).reached (turn_valid context) _

  module _ {c : Counters} {records mappings queue freed rows sets : List ℕ} (h : Valid k c records mappings queue freed rows sets) where
    anon_chosen_valid :
        (choice : Option ℕ) (target : Target) (level : Level) (context : GenContext)
        → MarkValid k queue freed rows sets (anon_chosen choice c records mappings s target level context)
    anon_chosen_valid None target level context = h
    anon_chosen_valid (Some r) target level context = anon_placed_valid h target level context (TempRegister r)

  module _ {c : Counters} {records mappings queue freed rows sets : List ℕ} (h : Valid k c records mappings queue freed rows sets) where
    pub anon_marked_valid :
        (target : Target) (level : Level) (context : GenContext)
        → MarkValid k queue freed rows sets (anon_marked c records mappings s freed target level context)
    unfolding anon_marked
    anon_marked_valid target level context = anon_chosen_valid (non_var_valid k h).valid (non_var c freed).chosen target level context

    term_chosen_valid :
        (choice : Option ℕ) (after : Counters) → Valid k after records mappings queue freed rows sets
        → MarkedValid k records mappings queue freed rows sets (term_chosen choice after)
    term_chosen_valid None after v = v
    term_chosen_valid (Some r) after v = v

    term_marked_valid : MarkedValid k records mappings queue freed rows sets (term_marked c freed)
    unfolding term_marked
    term_marked_valid = term_chosen_valid (non_var c freed).chosen (non_var c freed).counters (non_var_valid k h).valid

    cell_marked_valid : (cell : ℕ) → MarkedValid k records mappings queue freed rows sets (cell_marked c freed cell)
    unfolding cell_marked
    cell_marked_valid cell =
        by_test (MarkedValid k records mappings queue freed rows sets) (eqb cell 0) (λ e. term_marked_valid)
        (λ e. (let some = eqb-false cell 0 e in used_valid k h cell (omega arith)))

    pub non_var_marked_valid :
        (level : Level) (context : GenContext) (cell : ℕ)
        → MarkValid k queue freed rows sets (non_var_marked c records mappings s freed level context cell)
    unfolding non_var_marked
    non_var_marked_valid Root context cell = cell_marked_valid cell
    non_var_marked_valid Deep context cell = cell_marked_valid cell
    non_var_marked_valid Shallow context cell = non_var_argument_valid h context

-- ---- The variable of a cut

module _ (k : Kinds) (v : ℕ) (known : v < k.count) where
  slot_cut_by_valid :
      {mappings queue freed rows sets : List ℕ} (p : Placement) → PlacementValid k mappings queue freed rows sets p
      → CutValid k mappings queue freed rows sets (slot_cut_by p)
  unfolding slot_cut_by
  slot_cut_by_valid {mappings} {queue} {freed} {rows} {sets} p g =
      either (CutValid k mappings queue freed rows sets) (is_refused p.placed.refusal) g.valid g.valid

  register_cut_by_valid :
      {c : Counters} {records mappings queue freed rows sets : List ℕ} → Valid k c records mappings queue freed rows sets
      → (choice : Option ℕ) → PlacedChoice choice → (context : GenContext) (to_perm : ℕ) → AllocFits k v (Temp context 0 GloballyUnneeded to_perm)
      → CutValid k mappings queue freed rows sets (register_cut_by choice c records v (record_at records v) context to_perm)
  register_cut_by_valid h None g context to_perm a = h
  register_cut_by_valid {c} {records} h (Some r) g context to_perm a =
      put_valid k h v known (allocated (record_at records v) (Temp context r GloballyUnneeded to_perm))
      (allocated-fits k v (record_fits k h.recorded v known) (Temp context r GloballyUnneeded to_perm) (a.0, a.1, g.last, a.3))

  module _ {c : Counters} {records mappings queue freed rows sets : List ℕ} (h : Valid k c records mappings queue freed rows sets) where
    slot_cut_valid : k.temporary v ≡ false → (chunk : ℕ) → CutValid k mappings queue freed rows sets (slot_cut c records queue v chunk)
    unfolding slot_cut
    slot_cut_valid permanent chunk =
        slot_cut_by_valid (perm_placed c records queue v chunk) (perm_placed_valid k v known permanent h chunk)

    register_cut_valid :
        (context : GenContext) (to_perm : ℕ) → AllocFits k v (Temp context 0 GloballyUnneeded to_perm)
        → CutValid k mappings queue freed rows sets (register_cut c records freed v (record_at records v) context to_perm)
    unfolding register_cut
    register_cut_valid context to_perm a =
        let n = non_var_valid k h in
        register_cut_by_valid n.valid (non_var c freed).chosen n.chosen context to_perm a

    cut_as_valid :
        (allocation : VarAlloc) → AllocFits k v allocation → (chunk : ℕ)
        → CutValid k mappings queue freed rows sets (cut_as allocation c records queue freed v chunk)
    unfolding cut_as
    cut_as_valid (Perm slot allocation) a chunk =
        either (CutValid k mappings queue freed rows sets) (eqb slot 0) (slot_cut_valid a.0 chunk) h
    cut_as_valid (Temp context register safety to_perm) a chunk =
        either (CutValid k mappings queue freed rows sets) (eqb register 0)
        (register_cut_valid context to_perm (a.0, a.1, omega arith, a.3)) h

    pub cut_marked_valid : (chunk : ℕ) → CutValid k mappings queue freed rows sets (cut_marked c records queue freed v chunk)
    unfolding cut_marked
    cut_marked_valid chunk = cut_as_valid (record_at records v).allocation (record_fits k h.recorded v known).alloc chunk

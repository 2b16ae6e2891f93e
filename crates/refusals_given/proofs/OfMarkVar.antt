-- What a variable's mark can be given in a valid state: rules 4.4 to 4.7.
use Rattle.std.specs.Prelude.{Option, Some, None, ℕ, ◌*◌, ◌≤◌, ◌<◌, ◌≡◌, Bool, List, eqb, leb, ltb, length, Result, ⊤}
use Rattle.std.proofs.Common.{◌∙◌, arith, true≢false}
use Rattle.std.proofs.Math.Bool.{true, false}
use Rattle.notation.specs.ChoiceLaws.{either, by_test}
use Rattle.refusals.specs.declared.Refusal.{Refusal}
use Rattle.refusals.specs.Refusals.{accepted, refused_stop, refused_register, refused_slot, refused_full, is_refused}
use Rattle.sizes.specs.Sizes.{variables, registers, freed_slots}
use Rattle.registers.specs.declared.RegType.{RegType}
use Rattle.registers.specs.declared.RegType.TheVariants.{Temp as TempRegister, Perm as PermSlot}
use Rattle.code_deque.specs.declared.CodeDeque.{CodeDeque}
use Rattle.code_deque.specs.declared.CodeDeque.TheVariants.{Empty}
use Rattle.forms.specs.Forms.{chunk_num}
use Rattle.forms.specs.declared.Branch.{Branch}
use Rattle.forms.specs.declared.GenContext.{GenContext}
use Rattle.forms.specs.declared.GenContext.TheVariants.{Head, Mid, Last}
use Rattle.forms.specs.declared.Level.{Level}
use Rattle.forms.specs.declared.Level.TheVariants.{Root, Shallow, Deep}
use Rattle.variable_records.specs.declared.VarSafetyStatus.TheVariants.{Needed}
use Rattle.variable_records.specs.declared.PermVarAllocation.{PermVarAllocation}
use Rattle.variable_records.specs.declared.PermVarAllocation.TheVariants.{Done, Pending}
use Rattle.variable_records.specs.declared.VarAlloc.{VarAlloc}
use Rattle.variable_records.specs.declared.VarAlloc.TheVariants.{Temp, Perm}
use Rattle.variable_records.specs.Records.{allocated, placed_at}
use Rattle.variable_records.specs.Rows.{row_cells, record_at}
use Rattle.variable_records.specs.TableLaws.{record_put-length}
use Rattle.perm_free_list.specs.declared.Taken.{Taken}
use Rattle.perm_free_list.specs.PermFreeList.{entries, looked}
use Rattle.branch_stack.specs.BranchStack.{current_branch}
use Rattle.branches.specs.declared.BranchError.{BranchError}
use Rattle.branches.specs.Branches.{record_refusal, recorded, past_arms, top_of}
use Rattle.allocator_state.specs.declared.Counters.{Counters}
use Rattle.evacuation.specs.declared.Reached.{Reached}
use Rattle.restricting_sets.specs.declared.VariableSets.{VariableSets}
use Rattle.evacuation.specs.Evacuation.{Evacuation, alloc_with_cr, alloc_with_ca, going_on, evacuated}
use Rattle.allocation.specs.Allocation.{Placement, slot_given, slot_taken, without_front, new_slot, slot_placed, slot_found, perm_placed}
use Rattle.freeing.specs.Freeing.{Release, ReleaseOf, pushed_free, freed_as, freed as freeing, counted_or_freed}
use Rattle.marks.specs.Marks.{RegisterPlacement, chosen_or_refused, alloc_apart, after_evacuation, alloc_shallow, register_placed}
use Rattle.reserved_var.specs.declared.Mark.{Mark}
use Rattle.mark_var.specs.MarkVar.{Noted, noted_slot, noted, settled, Marking, finished_after, finished, instructed_at, instructed_for, reserved_after, reserved_marked}
use Rattle.mark_var.specs.MarkVar.{VarMark, marked_at, new_temporary_after, new_temporary_marked, new_slot_after, new_slot_marked, slot_marked}
use Rattle.mark_var.specs.MarkVar.{temporary_marked, permanent_marked, marked_by, var_marked}
use Rattle.valid_stays.specs.Fits.{Kinds, AllocFits, Valid, Uses}
use Rattle.valid_stays.proofs.RecordsFit.{record_fits}
use Rattle.valid_stays.proofs.OfAllocation.{PlacementValid, slot_given_valid, perm_placed_valid}
use Rattle.valid_stays.proofs.OfMarkVar.{RegisterValid, register_placed_valid}
use Rattle.refusals_given.proofs.OfRecordMarks.{Settled, SettledIn, settled_in, settled_at, settled-put}
use Rattle.refusals_given.proofs.OfReservedVar.{EvacuationGiven, EvacuationSettled, subterm_made_given, evacuated_given, evacuated-settled, argument_marked_given}

-- ---- A place

module _ (P : Option Refusal → Type 0) where
  abbrev pub PlacementGiven : Placement → Type 0
  PlacementGiven p = P p.placed.refusal

  abbrev pub RegisterGiven : RegisterPlacement → Type 0
  RegisterGiven p = P p.placed.reached.refusal

  abbrev pub ReleaseGiven : ReleaseOf → Type 0
  ReleaseGiven r = P r.released.refusal

  abbrev PushedGiven : Release → Type 0
  PushedGiven r = P r.released.refusal

  abbrev NotedGiven : Noted → Type 0
  NotedGiven n = P n.refusal

  abbrev MarkingGiven : Marking → Type 0
  MarkingGiven m = P m.reached.refusal

  abbrev pub VarMarkGiven : VarMark → Type 0
  VarMarkGiven m = P m.marked.reached.refusal

module _ (P : Option Refusal → Type 0) (none : P accepted) where
  module _ (slot : P refused_slot) where
    new_slot_given : (c : Counters) (records : List ℕ) (v : ℕ) → PlacementGiven P (new_slot c records v)
    unfolding new_slot
    new_slot_given c records v = either (PlacementGiven P) (ltb registers c.perm_lb) slot none

    slot_placed_given :
        (taken : Option Taken) (c : Counters) (records : List ℕ) (v : ℕ) → PlacementGiven P (slot_placed taken c records v)
    slot_placed_given (Some taken) c records v = none
    slot_placed_given None c records v = new_slot_given c records v

    pub perm_placed_given :
        (c : Counters) (records list : List ℕ) (v chunk : ℕ) → PlacementGiven P (perm_placed c records list v chunk)
    unfolding perm_placed slot_found
    perm_placed_given c records list v chunk =
        let found = looked records chunk 0 (entries list c.first_freed_slot 0 c.freed_slots) in
        slot_placed_given found.taken (without_front c found.dropped) records v

  module _ (register : P refused_register) where
    chosen_or_refused_given : (reached : Reached) (choice : Option ℕ) → P reached.refusal → P (chosen_or_refused reached choice).reached.refusal
    chosen_or_refused_given reached (Some r) given = given
    chosen_or_refused_given reached None given = register

    after_evacuation_given : (e : Evacuation) (s : VariableSets) (v : ℕ) → EvacuationGiven P e → RegisterGiven P (after_evacuation e s v)
    unfolding after_evacuation
    after_evacuation_given e s v given =
        either (RegisterGiven P) (is_refused e.reached.refusal) given
        (chosen_or_refused_given e.reached (alloc_with_cr e.reached.counters s v) given)

    module _ (c : Counters) (records mappings : List ℕ) (s : VariableSets) (v : ℕ) where
      apart_given : (code : CodeDeque) → P (alloc_apart c s v code).reached.refusal
      unfolding alloc_apart
      apart_given code =
          chosen_or_refused_given (going_on c code) (alloc_with_ca c s v) none

      shallow_given : (chunk : ℕ) (code : CodeDeque) → RegisterGiven P (alloc_shallow c records mappings s v chunk code)
      unfolding alloc_shallow
      shallow_given chunk code =
          after_evacuation_given (evacuated c records mappings s chunk code) s v (evacuated_given P none register c records mappings s chunk code)

      register_placed_given :
          (level : Level) (context : GenContext) (code : CodeDeque)
          → RegisterGiven P (register_placed c records mappings s v level context code)
      register_placed_given Root context code = apart_given code
      register_placed_given Deep context code = apart_given code
      register_placed_given Shallow (Mid chunk) code = apart_given code
      register_placed_given Shallow Head code = shallow_given 0 code
      register_placed_given Shallow (Last chunk) code = shallow_given chunk code

  -- ---- What follows the instruction

  module _ (full : P refused_full) where
    pushed_given : (c : Counters) (list : List ℕ) (chunk v : ℕ) → PushedGiven P (pushed_free c list chunk v)
    unfolding pushed_free
    pushed_given c list chunk v = either (PushedGiven P) (leb freed_slots c.freed_slots) full none

    freed_as_given :
        (allocation : VarAlloc) (c : Counters) (records list : List ℕ) (chunk v : ℕ)
        → ReleaseGiven P (freed_as allocation c records list chunk v)
    freed_as_given (Temp context register safety to_perm) c records list chunk v = none
    freed_as_given (Perm slot allocation) c records list chunk v = pushed_given c list chunk v

    pub freed_given : (c : Counters) (records list : List ℕ) (chunk v : ℕ) → ReleaseGiven P (freeing c records list chunk v)
    unfolding freeing
    freed_given c records list chunk v = freed_as_given (record_at records v).allocation c records list chunk v

    counted_or_freed_given : (c : Counters) (records list : List ℕ) (chunk v : ℕ) → ReleaseGiven P (counted_or_freed c records list chunk v)
    unfolding counted_or_freed
    counted_or_freed_given c records list chunk v =
        either (ReleaseGiven P) (ltb (record_at records v).running_count (record_at records v).num_occurrences) none
        (freed_given c records list chunk v)

    module _ (stop : P refused_stop) where
      recorded_given : (rows sets : List ℕ) (opened : ℕ) → P (record_refusal (recorded rows sets opened))
      unfolding recorded
      recorded_given rows sets opened =
          let RecordGiven : Result ⊤ BranchError → Type 0 = λ r. P (record_refusal r) in
          either RecordGiven (eqb opened 0) none (either RecordGiven (past_arms (top_of rows sets opened)) stop none)

      noted_given :
          (mappings rows sets : List ℕ) (opened v : ℕ) (place : RegType) (is_new : Bool)
          → NotedGiven P (noted mappings rows sets opened v place is_new)
      unfolding noted_slot
      noted_given mappings rows sets opened v (TempRegister r) is_new = none
      noted_given mappings rows sets opened v (PermSlot slot) is_new =
          either (NotedGiven P) is_new (recorded_given rows sets opened) none

      finished_after_given :
          (n : Noted) → NotedGiven P n → (c : Counters) (records list : List ℕ) (v : ℕ) (context : GenContext) (place : RegType) (code : CodeDeque)
          → MarkingGiven P (finished_after n c records list v context place code)
      unfolding finished_after settled
      finished_after_given n given c records list v context place code =
          either (MarkingGiven P) (is_refused n.refusal) given (counted_or_freed_given c _ list (chunk_num context) v)

      reserved_after_given :
          (e : Evacuation) → EvacuationGiven P e → (list rows sets : List ℕ) (mark : Mark) (place : RegType) (is_new : Bool)
          → MarkingGiven P (reserved_after e list rows sets mark place is_new)
      unfolding reserved_after finished
      reserved_after_given e given list rows sets mark place is_new =
          let c = e.reached.counters in
          either (MarkingGiven P) (is_refused e.reached.refusal) given
          (finished_after_given (noted e.mappings rows sets c.open_branches mark.variable place is_new)
          (noted_given e.mappings rows sets c.open_branches mark.variable place is_new)
          c e.records list mark.variable mark.context place e.reached.code)

-- ---- Who gets a place is settled

module _ (v : ℕ) where
  abbrev RegisterSettled : RegisterPlacement → Type 0
  RegisterSettled p = SettledIn v p.records

  after_evacuation-settled : (e : Evacuation) (s : VariableSets) → EvacuationSettled v e → RegisterSettled (after_evacuation e s v)
  unfolding after_evacuation
  after_evacuation-settled e s every = either RegisterSettled (is_refused e.reached.refusal) every every

  module _ {records : List ℕ} (every : SettledIn v records) (c : Counters) (mappings : List ℕ) (s : VariableSets) where
    shallow_settled : (chunk : ℕ) (code : CodeDeque) → RegisterSettled (alloc_shallow c records mappings s v chunk code)
    unfolding alloc_shallow
    shallow_settled chunk code =
        after_evacuation-settled (evacuated c records mappings s chunk code) s (evacuated-settled v every c mappings s chunk code)

    register_placed-settled :
        (level : Level) (context : GenContext) (code : CodeDeque)
        → RegisterSettled (register_placed c records mappings s v level context code)
    register_placed-settled Root context code = every
    register_placed-settled Deep context code = every
    register_placed-settled Shallow (Mid chunk) code = every
    register_placed-settled Shallow Head code = shallow_settled 0 code
    register_placed-settled Shallow (Last chunk) code = shallow_settled chunk code

  module _ (records : List ℕ) (size : length records ≡ variables * row_cells) where
    -- a slot is given to a variable that is Done
    slot_given-settled : (slot : ℕ) → SettledIn v (slot_given records v slot)
    unfolding slot_given
    slot_given-settled slot = settled-put v records size (allocated (record_at records v) (Perm slot (Done Needed Needed))) tt

  abbrev PlacementSettled : Placement → Type 0
  PlacementSettled p = is_refused p.placed.refusal ≡ false → SettledIn v p.records

  taken_size :
      (records : List ℕ) (owner : ℕ) → length records ≡ variables * row_cells → length (slot_taken records owner) ≡ variables * row_cells
  unfolding slot_taken
  taken_size records owner size = record_put-length records owner (placed_at (record_at records owner) 0) ∙ size

  module _ (records : List ℕ) (size : length records ≡ variables * row_cells) where
    new_slot-settled : (c : Counters) → PlacementSettled (new_slot c records v)
    unfolding new_slot
    new_slot-settled c =
        either PlacementSettled (ltb registers c.perm_lb) (λ accepts. absurd (true≢false accepts)) (λ accepts. slot_given-settled records size c.perm_lb)

    slot_placed-settled : (taken : Option Taken) (c : Counters) → PlacementSettled (slot_placed taken c records v)
    slot_placed-settled (Some taken) c =
        λ accepts. slot_given-settled (slot_taken records taken.owner) (taken_size records taken.owner size) taken.slot
    slot_placed-settled None c = new_slot-settled c

    perm_placed-settled : (c : Counters) (list : List ℕ) (chunk : ℕ) → PlacementSettled (perm_placed c records list v chunk)
    unfolding perm_placed slot_found
    perm_placed-settled c list chunk =
        let found = looked records chunk 0 (entries list c.first_freed_slot 0 c.freed_slots) in
        slot_placed-settled found.taken (without_front c found.dropped)

-- ---- A variable

module _ (P : Option Refusal → Type 0) (none : P accepted) (stop : P refused_stop) (register : P refused_register) (slots : P refused_slot) (full : P refused_full)
    (k : Kinds) (s : VariableSets) (fit : Uses k s.use_sets s.use_counts) (mark : Mark) (known : mark.variable < k.count) where
  abbrev v : ℕ
  v = mark.variable

  inside : v < variables
  inside = omega (arith, k.small)

  module _ {c : Counters} {records mappings queue freed rows sets : List ℕ} (h : Valid k c records mappings queue freed rows sets)
      (every : SettledIn v records) where
    instructed_at_given :
        (place : RegType) (is_new : Bool) (level : Level) (branch : Branch) (code : CodeDeque)
        → EvacuationGiven P (instructed_at level c records mappings s mark place is_new branch code)
    instructed_at_given place is_new Deep branch code =
        subterm_made_given P none k h v (settled_at v every inside) s mark.target mark.context place is_new branch code
    instructed_at_given place is_new Root branch code =
        argument_marked_given P none register k s fit v known h every mark.target Root mark.context place is_new branch code
    instructed_at_given place is_new Shallow branch code =
        argument_marked_given P none register k s fit v known h every mark.target Shallow mark.context place is_new branch code

    marked_at_given :
        (place : RegType) (is_new : Bool) (code : CodeDeque)
        → VarMarkGiven P (marked_at c records mappings s queue rows sets mark place is_new code)
    unfolding marked_at reserved_marked
    marked_at_given place is_new code =
        reserved_after_given P none full stop (instructed_for c records mappings s rows mark place is_new code)
        (instructed_at_given place is_new mark.level (current_branch rows c.open_branches) code) queue rows sets mark place is_new

  new_temporary_after_given :
      {queue freed rows sets : List ℕ} (p : RegisterPlacement) → RegisterValid k queue freed rows sets p → RegisterSettled v p → RegisterGiven P p
      → VarMarkGiven P (new_temporary_after p s queue rows sets mark)
  unfolding new_temporary_after
  new_temporary_after_given p g every given =
      either (VarMarkGiven P) (is_refused p.placed.reached.refusal) given
      (marked_at_given g.valid every (TempRegister p.placed.place) true p.placed.reached.code)

  new_slot_after_given :
      {mappings queue freed rows sets : List ℕ} (p : Placement) → PlacementValid k mappings queue freed rows sets p → PlacementSettled v p
      → PlacementGiven P p
      → VarMarkGiven P (new_slot_after p mappings s queue rows sets mark)
  unfolding new_slot_after
  new_slot_after_given p g every given =
      by_test (VarMarkGiven P) (is_refused p.placed.refusal) (λ e. given)
      (λ e. marked_at_given g.valid (every e) (PermSlot p.placed.place) true Empty)

  module _ {c : Counters} {records mappings queue freed rows sets : List ℕ} (h : Valid k c records mappings queue freed rows sets) where
    new_temporary_given : SettledIn v records → VarMarkGiven P (new_temporary_marked c records mappings s queue rows sets mark)
    unfolding new_temporary_marked
    new_temporary_given every =
        new_temporary_after_given (register_placed c records mappings s v mark.level mark.context Empty)
        (register_placed_valid k s fit v known h mark.level mark.context Empty)
        (register_placed-settled v every c mappings s mark.level mark.context Empty)
        (register_placed_given P none register c records mappings s v mark.level mark.context Empty)

    temporary_given :
        SettledIn v records → (r : ℕ) → VarMarkGiven P (temporary_marked c records mappings s queue rows sets mark r)
    unfolding temporary_marked
    temporary_given every r =
        either (VarMarkGiven P) (eqb r 0) (new_temporary_given every) (marked_at_given h every (TempRegister r) false Empty)

    module _ (permanent : k.temporary v ≡ false) where
      new_slot_marked_given : VarMarkGiven P (new_slot_marked c records mappings s queue rows sets mark)
      unfolding new_slot_marked
      new_slot_marked_given =
          let chunk = chunk_num mark.context in
          new_slot_after_given (perm_placed c records queue v chunk) (perm_placed_valid k v known permanent h chunk)
          (perm_placed-settled v records h.recorded.full c queue chunk) (perm_placed_given P none slots c records queue v chunk)

      slot_given_lem :
          (slot : ℕ) → slot ≤ registers → (allocation : PermVarAllocation) → (Settled (Perm slot allocation) → SettledIn v records)
          → VarMarkGiven P (slot_marked c records mappings s queue rows sets mark slot allocation)
      slot_given_lem slot small Pending every =
          marked_at_given (slot_given_valid k h v known permanent slot small) (slot_given-settled v records h.recorded.full slot) (PermSlot slot) true Empty
      slot_given_lem slot small (Done shallow deep) every = marked_at_given h (every tt) (PermSlot slot) false Empty

      permanent_given :
          (slot : ℕ) → slot ≤ registers → (allocation : PermVarAllocation) → (Settled (Perm slot allocation) → SettledIn v records)
          → VarMarkGiven P (permanent_marked c records mappings s queue rows sets mark slot allocation)
      unfolding permanent_marked
      permanent_given slot small allocation every =
          either (VarMarkGiven P) (eqb slot 0) new_slot_marked_given (slot_given_lem slot small allocation every)

    marked_by_given :
        (allocation : VarAlloc) → AllocFits k v allocation → (Settled allocation → SettledIn v records)
        → VarMarkGiven P (marked_by allocation c records mappings s queue rows sets mark)
    marked_by_given (Temp context r safety to_perm) a every = temporary_given (every tt) r
    marked_by_given (Perm slot allocation) a every = permanent_given a.0 slot a.1 allocation every

    pub var_marked_given : VarMarkGiven P (var_marked c records mappings s queue rows sets mark)
    unfolding var_marked
    var_marked_given =
        marked_by_given (record_at records v).allocation (record_fits k h.recorded v known).alloc (settled_in v h.recorded.full)

-- A valid state stays valid where a variable is marked.
use Rattle.std.specs.Prelude.{Option, Some, None, ℕ, ◌≤◌, ◌<◌, ◌≡◌, Bool, List, eqb}
use Rattle.std.proofs.Common.{inr, arith, sym, true≢false, ◌∙◌}
use Rattle.std.proofs.Math.Bool.{true, false}
use borrow.Author.Tests.{eqb-false}
use Rattle.notation.specs.ChoiceLaws.{either, by_test}
use Rattle.refusals.specs.Refusals.{is_refused}
use Rattle.sizes.specs.Sizes.{registers, chunks}
use Rattle.registers.specs.declared.RegType.{RegType}
use Rattle.registers.specs.declared.RegType.TheVariants.{Temp as TempRegister, Perm as PermSlot}
use Rattle.registers.specs.Registers.{number_of_place}
use Rattle.code_deque.specs.declared.CodeDeque.{CodeDeque}
use Rattle.code_deque.specs.declared.CodeDeque.TheVariants.{Empty}
use Rattle.forms.specs.Forms.{chunk_num}
use Rattle.forms.specs.declared.Branch.{Branch}
use Rattle.forms.specs.declared.GenContext.{GenContext}
use Rattle.forms.specs.declared.GenContext.TheVariants.{Head, Mid, Last}
use Rattle.forms.specs.declared.Level.{Level}
use Rattle.forms.specs.declared.Level.TheVariants.{Root, Shallow, Deep}
use Rattle.variable_records.specs.declared.PermVarAllocation.{PermVarAllocation}
use Rattle.variable_records.specs.declared.PermVarAllocation.TheVariants.{Done, Pending}
use Rattle.variable_records.specs.declared.VarAlloc.{VarAlloc}
use Rattle.variable_records.specs.declared.VarAlloc.TheVariants.{Temp, Perm}
use Rattle.variable_records.specs.Rows.{record_at}
use Rattle.branch_stack.specs.BranchStack.{current_branch}
use Rattle.allocator_state.specs.declared.Counters.{Counters}
use Rattle.evacuation.specs.declared.Reached.{Reached}
use Rattle.restricting_sets.specs.declared.VariableSets.{VariableSets}
use Rattle.evacuation.specs.Evacuation.{Evacuation, alloc_with_cr, alloc_with_ca, going_on, evacuated}
use Rattle.allocation.specs.Allocation.{Placement, perm_placed}
use Rattle.marks.specs.Marks.{RegisterPlacement, chosen_or_refused, alloc_apart, after_evacuation, alloc_shallow, register_placed}
use Rattle.reserved_var.specs.declared.Mark.{Mark}
use Rattle.mark_var.specs.MarkVar.{Noted, noted_slot, noted, settled, Marking, finished_after, finished, instructed_at, instructed_for, reserved_after, reserved_marked}
use Rattle.mark_var.specs.MarkVar.{VarMark, marked_at, new_temporary_after, new_temporary_marked, new_slot_after, new_slot_marked, slot_marked}
use Rattle.mark_var.specs.MarkVar.{temporary_marked, permanent_marked, marked_by, var_marked}
use Rattle.valid_stays.specs.Fits.{Kinds, Placed, AllocFits, Valid, Uses}
use Rattle.valid_stays.proofs.RecordsFit.{record_fits}
use Rattle.valid_stays.proofs.Steps.{placed_valid, mapped_valid, used_valid, with_branches}
use Rattle.valid_stays.proofs.OfEvacuation.{PlacedChoice, cr_placed, ca_placed, EvacuationValid, evacuated_valid}
use Rattle.valid_stays.proofs.OfAllocation.{PlacementValid, ReleaseValid, slot_given_valid, perm_placed_valid, counted_or_freed_valid}
use Rattle.valid_stays.proofs.OfBranches.{branches_recorded}
use Rattle.valid_stays.proofs.OfReservedVar.{subterm_made_valid, argument_marked_valid}

-- a place of the variable's kind
abbrev pub PlaceFits : Kinds → ℕ → RegType → Type 0
PlaceFits k v (TempRegister r) = (k.temporary v ≡ true) × Placed r
PlaceFits k v (PermSlot r) = (k.temporary v ≡ false) × Placed r

number_placed : (k : Kinds) (v : ℕ) (place : RegType) → PlaceFits k v place → Placed (number_of_place place)
number_placed k v (TempRegister r) fits = fits.1
number_placed k v (PermSlot r) fits = fits.1

-- ---- What follows the instruction

module _ (k : Kinds) (freed : List ℕ) where
  abbrev NotedValid : Counters → List ℕ → List ℕ → Noted → Type 0
  NotedValid c records queue n = Valid k c records n.mappings queue freed n.rows n.branch_sets

  abbrev MarkingValid : Marking → Type 0
  MarkingValid m = Valid k m.reached.counters m.records m.mappings m.list freed m.rows m.branch_sets

  abbrev pub VarMarkValid : VarMark → Type 0
  VarMarkValid m = Valid k m.marked.reached.counters m.records m.mappings m.list freed m.rows m.branch_sets

module _ (k : Kinds) (queue freed rows sets : List ℕ) where
  -- the register of a placement that is not refused is one
  pub record RegisterValid (p : RegisterPlacement) : Type 0 where
    pub valid : Valid k p.placed.reached.counters p.records p.mappings queue freed rows sets
    pub place : is_refused p.placed.reached.refusal ≡ false → Placed p.placed.place

module _ (k : Kinds) (v : ℕ) (known : v < k.count) (context : GenContext) (small : chunk_num context ≤ chunks) where
  module _ {c : Counters} {records mappings queue freed rows sets : List ℕ} (h : Valid k c records mappings queue freed rows sets) where
    noted_valid :
        (place : RegType) → PlaceFits k v place → (is_new : Bool)
        → NotedValid k freed c records queue (noted mappings rows sets c.open_branches v place is_new)
    unfolding noted_slot
    noted_valid (TempRegister r) fits is_new = mapped_valid k h r v (inr (known, fits.0))
    noted_valid (PermSlot slot) fits is_new =
        either (NotedValid k freed c records queue) is_new
        (with_branches k h (branches_recorded k h.opened h.counted.opened v (known, fits.0))) h

    settled_valid :
        (place : RegType) → Placed (number_of_place place)
        → ReleaseValid k mappings freed rows sets (settled c records queue context v place)
    unfolding settled
    settled_valid place placed =
        used_valid k
        (counted_or_freed_valid k (chunk_num context) v small known (placed_valid k h v known (number_of_place place) placed.last))
        (number_of_place place) placed.some

  finished_after_valid :
      {c : Counters} {records queue freed : List ℕ} (n : Noted) → NotedValid k freed c records queue n
      → (place : RegType) → Placed (number_of_place place) → (code : CodeDeque)
      → MarkingValid k freed (finished_after n c records queue v context place code)
  unfolding finished_after
  finished_after_valid {c} {records} {queue} {freed} n h place placed code =
      either (MarkingValid k freed) (is_refused n.refusal) h (settled_valid h place placed)

  finished_valid :
      {c : Counters} {records mappings queue freed rows sets : List ℕ} → Valid k c records mappings queue freed rows sets
      → (place : RegType) → PlaceFits k v place → (is_new : Bool) (code : CodeDeque)
      → MarkingValid k freed (finished c records mappings queue rows sets v context place is_new code)
  unfolding finished
  finished_valid {c} {records} {mappings} {queue} {freed} {rows} {sets} h place fits is_new code =
      finished_after_valid (noted mappings rows sets c.open_branches v place is_new) (noted_valid h place fits is_new) place
      (number_placed k v place fits) code

module _ (k : Kinds) (s : VariableSets) (fit : Uses k s.use_sets s.use_counts) where
  -- ---- A register for a new temporary

  module _ {queue freed rows sets : List ℕ} (records mappings : List ℕ) where
    chosen_or_refused_valid :
        (reached : Reached) → Valid k reached.counters records mappings queue freed rows sets
        → (choice : Option ℕ) → PlacedChoice choice
        → RegisterValid k queue freed rows sets (record { records = records; mappings = mappings; placed = chosen_or_refused reached choice })
    chosen_or_refused_valid reached h (Some r) g = record { valid = h; place = λ none. g }
    chosen_or_refused_valid reached h None g = record { valid = h; place = λ none. absurd (true≢false none) }

  module _ (v : ℕ) (known : v < k.count) where
    after_evacuation_valid :
        {queue freed rows sets : List ℕ} (e : Evacuation) → EvacuationValid k queue freed rows sets e
        → RegisterValid k queue freed rows sets (after_evacuation e s v)
    unfolding after_evacuation
    after_evacuation_valid {queue} {freed} {rows} {sets} e h =
        let c = e.reached.counters in
        by_test (RegisterValid k queue freed rows sets) (is_refused e.reached.refusal)
        (λ refused. record { valid = h; place = λ none. absurd (true≢false (sym refused ∙ none)) })
        (λ accepted. chosen_or_refused_valid e.records e.mappings e.reached h
        (alloc_with_cr c s v) (cr_placed k s fit c h.counted v known))

    module _ {c : Counters} {records mappings queue freed rows sets : List ℕ} (h : Valid k c records mappings queue freed rows sets) where
      apart_valid :
          (code : CodeDeque)
          → RegisterValid k queue freed rows sets (record { records = records; mappings = mappings; placed = alloc_apart c s v code })
      unfolding alloc_apart
      apart_valid code =
          chosen_or_refused_valid records mappings (going_on c code) h
          (alloc_with_ca c s v) (ca_placed k s fit c h.counted v known)

      shallow_valid : (chunk : ℕ) (code : CodeDeque) → RegisterValid k queue freed rows sets (alloc_shallow c records mappings s v chunk code)
      unfolding alloc_shallow
      shallow_valid chunk code =
          after_evacuation_valid (evacuated c records mappings s chunk code) (evacuated_valid k s fit h chunk code)

      pub register_placed_valid :
          (level : Level) (context : GenContext) (code : CodeDeque)
          → RegisterValid k queue freed rows sets (register_placed c records mappings s v level context code)
      register_placed_valid Root context code = apart_valid code
      register_placed_valid Deep context code = apart_valid code
      register_placed_valid Shallow (Mid chunk) code = apart_valid code
      register_placed_valid Shallow Head code = shallow_valid 0 code
      register_placed_valid Shallow (Last chunk) code = shallow_valid chunk code

  -- ---- A variable whose place is known

  module _ (mark : Mark) (known : mark.variable < k.count) (small : chunk_num mark.context ≤ chunks) where
    instructed_at_valid :
        {c : Counters} {records mappings queue freed rows sets : List ℕ} → Valid k c records mappings queue freed rows sets
        → (place : RegType) (is_new : Bool) (level : Level) (branch : Branch) (code : CodeDeque)
        → EvacuationValid k queue freed rows sets (instructed_at level c records mappings s mark place is_new branch code)
    instructed_at_valid h place is_new Deep branch code =
        subterm_made_valid k h mark.variable known s mark.target mark.context place is_new branch code
    instructed_at_valid h place is_new Root branch code =
        argument_marked_valid k s fit mark.variable known h mark.target Root mark.context place is_new branch code
    instructed_at_valid h place is_new Shallow branch code =
        argument_marked_valid k s fit mark.variable known h mark.target Shallow mark.context place is_new branch code

    reserved_after_valid :
        {queue freed rows sets : List ℕ} (e : Evacuation) → EvacuationValid k queue freed rows sets e
        → (place : RegType) → PlaceFits k mark.variable place → (is_new : Bool)
        → MarkingValid k freed (reserved_after e queue rows sets mark place is_new)
    unfolding reserved_after
    reserved_after_valid {queue} {freed} e h place fits is_new =
        either (MarkingValid k freed) (is_refused e.reached.refusal) h
        (finished_valid k mark.variable known mark.context small h place fits is_new e.reached.code)

    marked_at_valid :
        {c : Counters} {records mappings queue freed rows sets : List ℕ} → Valid k c records mappings queue freed rows sets
        → (place : RegType) → PlaceFits k mark.variable place → (is_new : Bool) (code : CodeDeque)
        → VarMarkValid k freed (marked_at c records mappings s queue rows sets mark place is_new code)
    unfolding marked_at reserved_marked
    marked_at_valid {c} {records} {mappings} {queue} {freed} {rows} h place fits is_new code =
        reserved_after_valid (instructed_for c records mappings s rows mark place is_new code)
        (instructed_at_valid h place is_new mark.level (current_branch rows c.open_branches) code) place fits is_new

    -- ---- A variable

    new_temporary_after_valid :
        {queue freed rows sets : List ℕ} (p : RegisterPlacement) → RegisterValid k queue freed rows sets p → k.temporary mark.variable ≡ true
        → VarMarkValid k freed (new_temporary_after p s queue rows sets mark)
    unfolding new_temporary_after
    new_temporary_after_valid {queue} {freed} p g temporary =
        by_test (VarMarkValid k freed) (is_refused p.placed.reached.refusal) (λ e. g.valid)
        (λ e. marked_at_valid g.valid (TempRegister p.placed.place)
        (temporary, g.place e) true p.placed.reached.code)

    new_slot_after_valid :
        {mappings queue freed rows sets : List ℕ} (p : Placement) → PlacementValid k mappings queue freed rows sets p
        → k.temporary mark.variable ≡ false
        → VarMarkValid k freed (new_slot_after p mappings s queue rows sets mark)
    unfolding new_slot_after
    new_slot_after_valid {mappings} {queue} {freed} p g permanent =
        by_test (VarMarkValid k freed) (is_refused p.placed.refusal) (λ e. g.valid)
        (λ e. marked_at_valid g.valid (PermSlot p.placed.place) (permanent, g.place e) true Empty)

    module _ {c : Counters} {records mappings queue freed rows sets : List ℕ} (h : Valid k c records mappings queue freed rows sets) where
      new_temporary_valid :
          k.temporary mark.variable ≡ true → VarMarkValid k freed (new_temporary_marked c records mappings s queue rows sets mark)
      unfolding new_temporary_marked
      new_temporary_valid temporary =
          new_temporary_after_valid (register_placed c records mappings s mark.variable mark.level mark.context Empty)
          (register_placed_valid mark.variable known h mark.level mark.context Empty) temporary

      temporary_valid :
          (register : ℕ) → register ≤ registers → k.temporary mark.variable ≡ true
          → VarMarkValid k freed (temporary_marked c records mappings s queue rows sets mark register)
      unfolding temporary_marked
      temporary_valid register less temporary =
          by_test (VarMarkValid k freed) (eqb register 0) (λ e. new_temporary_valid temporary)
          (λ e. (let some = eqb-false register 0 e in
          marked_at_valid h (TempRegister register) (temporary, record { some = omega arith; last = less }) false Empty))

      module _ (permanent : k.temporary mark.variable ≡ false) where
        new_slot_valid : VarMarkValid k freed (new_slot_marked c records mappings s queue rows sets mark)
        unfolding new_slot_marked
        new_slot_valid =
            new_slot_after_valid (perm_placed c records queue mark.variable (chunk_num mark.context))
            (perm_placed_valid k mark.variable known permanent h (chunk_num mark.context)) permanent

        slot_valid :
            (slot : ℕ) → Placed slot → (allocation : PermVarAllocation)
            → VarMarkValid k freed (slot_marked c records mappings s queue rows sets mark slot allocation)
        slot_valid slot placed Pending =
            marked_at_valid (slot_given_valid k h mark.variable known permanent slot placed.last) (PermSlot slot) (permanent, placed) true Empty
        slot_valid slot placed (Done shallow deep) = marked_at_valid h (PermSlot slot) (permanent, placed) false Empty

        permanent_valid :
            (slot : ℕ) → slot ≤ registers → (allocation : PermVarAllocation)
            → VarMarkValid k freed (permanent_marked c records mappings s queue rows sets mark slot allocation)
        unfolding permanent_marked
        permanent_valid slot less allocation =
            by_test (VarMarkValid k freed) (eqb slot 0) (λ e. new_slot_valid)
            (λ e. (let some = eqb-false slot 0 e in slot_valid slot (record { some = omega arith; last = less }) allocation))

      marked_by_valid :
          (allocation : VarAlloc) → AllocFits k mark.variable allocation
          → VarMarkValid k freed (marked_by allocation c records mappings s queue rows sets mark)
      marked_by_valid (Temp context register safety to_perm) a = temporary_valid register a.2 a.0
      marked_by_valid (Perm slot allocation) a = permanent_valid a.0 slot a.1 allocation

      pub var_marked_valid : VarMarkValid k freed (var_marked c records mappings s queue rows sets mark)
      unfolding var_marked
      var_marked_valid =
          marked_by_valid (record_at records mark.variable).allocation (record_fits k h.recorded mark.variable known).alloc

-- Every record stays of its kind, in a good place, where a variable is marked.
use Rattle.std.specs.Prelude.{Option, Some, None, ℕ, ◌%◌, Bool, List, eqb}
use Rattle.std.proofs.Math.Bool.{true, false}
use Rattle.notation.specs.ChoiceLaws.{either}
use Rattle.sizes.specs.Sizes.{variables}
use Rattle.registers.specs.declared.RegType.{RegType}
use Rattle.registers.specs.declared.RegType.TheVariants.{Temp as TempRegister, Perm as PermSlot}
use Rattle.registers.specs.Registers.{number_of_place}
use Rattle.code_deque.specs.declared.CodeDeque.{CodeDeque}
use Rattle.code_deque.specs.declared.CodeDeque.TheVariants.{Empty}
use Rattle.forms.specs.Forms.{chunk_num}
use Rattle.forms.specs.declared.Branch.{Branch}
use Rattle.forms.specs.declared.GenContext.{GenContext}
use Rattle.forms.specs.declared.GenContext.TheVariants.{Head, Mid, Last}
use Rattle.forms.specs.declared.Level.{Level}
use Rattle.forms.specs.declared.Level.TheVariants.{Root, Shallow, Deep}
use Rattle.variable_records.specs.declared.PermVarAllocation.{PermVarAllocation}
use Rattle.variable_records.specs.declared.PermVarAllocation.TheVariants.{Done, Pending}
use Rattle.variable_records.specs.declared.VarAlloc.{VarAlloc}
use Rattle.variable_records.specs.declared.VarAlloc.TheVariants.{Temp, Perm}
use Rattle.variable_records.specs.Rows.{record_at}
use Rattle.branch_stack.specs.BranchStack.{current_branch}
use Rattle.allocator_state.specs.declared.Counters.{Counters}
use Rattle.evacuation.specs.declared.Reached.{Reached}
use Rattle.restricting_sets.specs.declared.VariableSets.{VariableSets}
use Rattle.evacuation.specs.Evacuation.{Evacuation, alloc_with_cr, alloc_with_ca, going_on, evacuated}
use Rattle.allocation.specs.Allocation.{Placement, perm_placed}
use Rattle.marks.specs.Marks.{RegisterPlacement, chosen_or_refused, alloc_apart, after_evacuation, alloc_shallow, register_placed}
use Rattle.reserved_var.specs.declared.Mark.{Mark}
use Rattle.mark_var.specs.MarkVar.{Noted, noted, settled, Marking, finished_after, finished, instructed_at, instructed_for, reserved_after, reserved_marked}
use Rattle.mark_var.specs.MarkVar.{VarMark, marked_at, new_temporary_after, new_temporary_marked, new_slot_after, new_slot_marked, slot_marked}
use Rattle.mark_var.specs.MarkVar.{temporary_marked, permanent_marked, marked_by, var_marked}
use Rattle.invariants.specs.Kept.{Wanted, Holds, Kept, kept_at, kept_placed, none_good}
use Rattle.invariants.specs.OfEvacuation.{GoodChoice, GoodUses, cr_good, ca_good, evacuated_keeps}
use Rattle.invariants.specs.OfAllocation.{GoodPlacement, slot_given_keeps, perm_placed_good, counted_or_freed_keeps}
use Rattle.invariants.specs.OfReservedVar.{KeptEvacuation, subterm_made_keeps, argument_marked_keeps}
use Rattle.refusals.specs.Refusals.{is_refused}

module _ (k : Wanted) where
  -- ---- What follows the instruction

  abbrev KeptMarking : Marking → Type 0
  KeptMarking m = Kept k m.records

  abbrev pub KeptMark : VarMark → Type 0
  KeptMark m = Kept k m.records

  module _ {records : List ℕ} (every : Kept k records) (c : Counters) (list : List ℕ) (v : ℕ) (context : GenContext) (place : RegType)
      (good : k.Good (number_of_place place)) where
    settled_keeps : Kept k (settled c records list context v place).records
    unfolding settled
    settled_keeps = counted_or_freed_keeps k (kept_placed k every v (number_of_place place) good) c list (chunk_num context) v

    finished_after_keeps : (n : Noted) (code : CodeDeque) → KeptMarking (finished_after n c records list v context place code)
    unfolding finished_after
    finished_after_keeps n code = either KeptMarking (is_refused n.refusal) every settled_keeps

    finished_keeps :
        (mappings rows branch_sets : List ℕ) (is_new : Bool) (code : CodeDeque)
        → KeptMarking (finished c records mappings list rows branch_sets v context place is_new code)
    unfolding finished
    finished_keeps mappings rows branch_sets is_new code =
        finished_after_keeps (noted mappings rows branch_sets c.open_branches v place is_new) code

  -- every record is kept, and the register is good
  abbrev GoodRegister : RegisterPlacement → Type 0
  GoodRegister p = Kept k p.records × k.Good p.placed.place

  chosen_or_refused_good :
      (reached : Reached) (choice : Option ℕ) → GoodChoice k choice
      → k.Good (chosen_or_refused reached choice).place
  chosen_or_refused_good reached (Some r) g = g
  chosen_or_refused_good reached None g = none_good k

  module _ (s : VariableSets) (good : GoodUses k s.use_sets) where
    -- ---- A register for a new temporary

    apart_good : (c : Counters) (v : ℕ) (code : CodeDeque) → k.Good (alloc_apart c s v code).place
    unfolding alloc_apart
    apart_good c v code =
        chosen_or_refused_good (going_on c code) (alloc_with_ca c s v) (ca_good k s good c v)

    after_evacuation_good : (e : Evacuation) → KeptEvacuation k e → (v : ℕ) → GoodRegister (after_evacuation e s v)
    unfolding after_evacuation
    after_evacuation_good e every v =
        let c = e.reached.counters in
        either GoodRegister (is_refused e.reached.refusal) (every, none_good k)
        (every, chosen_or_refused_good e.reached (alloc_with_cr c s v) (cr_good k s good c v))

    module _ {records : List ℕ} (every : Kept k records) (c : Counters) (mappings : List ℕ) (v : ℕ) where
      shallow_good : (chunk : ℕ) (code : CodeDeque) → GoodRegister (alloc_shallow c records mappings s v chunk code)
      unfolding alloc_shallow
      shallow_good chunk code =
          after_evacuation_good (evacuated c records mappings s chunk code) (evacuated_keeps k s good c mappings code every chunk) v

      register_placed_good :
          (level : Level) (context : GenContext) (code : CodeDeque)
          → GoodRegister (register_placed c records mappings s v level context code)
      register_placed_good Root context code = (every, apart_good c v code)
      register_placed_good Deep context code = (every, apart_good c v code)
      register_placed_good Shallow (Mid chunk) code = (every, apart_good c v code)
      register_placed_good Shallow Head code = shallow_good 0 code
      register_placed_good Shallow (Last chunk) code = shallow_good chunk code

    -- ---- A variable whose place is known

    module _ {records : List ℕ} (every : Kept k records) (c : Counters) (mappings : List ℕ) (mark : Mark) (place : RegType) (is_new : Bool) where
      instructed_at_keeps :
          (level : Level) (branch : Branch) (code : CodeDeque)
          → KeptEvacuation k (instructed_at level c records mappings s mark place is_new branch code)
      instructed_at_keeps Deep branch code =
          subterm_made_keeps k every c mappings s mark.target mark.context mark.variable place is_new branch code
      instructed_at_keeps Root branch code =
          argument_marked_keeps k s good every c mappings mark.target Root mark.context mark.variable place is_new branch code
      instructed_at_keeps Shallow branch code =
          argument_marked_keeps k s good every c mappings mark.target Shallow mark.context mark.variable place is_new branch code

    module _ (list rows branch_sets : List ℕ) (mark : Mark) where
      reserved_after_keeps :
          (e : Evacuation) → KeptEvacuation k e → (place : RegType) → k.Good (number_of_place place) → (is_new : Bool)
          → KeptMarking (reserved_after e list rows branch_sets mark place is_new)
      unfolding reserved_after
      reserved_after_keeps e every place number is_new =
          either KeptMarking (is_refused e.reached.refusal) every
          (finished_keeps every e.reached.counters list mark.variable mark.context place number e.mappings rows branch_sets is_new
          e.reached.code)

      marked_at_keeps :
          {records : List ℕ} → Kept k records → (c : Counters) (mappings : List ℕ) (place : RegType) → k.Good (number_of_place place)
          → (is_new : Bool) (code : CodeDeque)
          → KeptMark (marked_at c records mappings s list rows branch_sets mark place is_new code)
      unfolding marked_at reserved_marked
      marked_at_keeps {records} every c mappings place number is_new code =
          reserved_after_keeps (instructed_for c records mappings s rows mark place is_new code)
          (instructed_at_keeps every c mappings mark place is_new mark.level (current_branch rows c.open_branches) code) place number is_new

      -- ---- A variable

      new_temporary_after_keeps :
          (p : RegisterPlacement) → GoodRegister p
          → KeptMark (new_temporary_after p s list rows branch_sets mark)
      unfolding new_temporary_after
      new_temporary_after_keeps p g =
          either KeptMark (is_refused p.placed.reached.refusal) g.0
          (marked_at_keeps g.0 p.placed.reached.counters p.mappings (TempRegister p.placed.place) g.1 true p.placed.reached.code)

      new_slot_after_keeps :
          (p : Placement) → GoodPlacement k p → (mappings : List ℕ)
          → KeptMark (new_slot_after p mappings s list rows branch_sets mark)
      unfolding new_slot_after
      new_slot_after_keeps p g mappings =
          either KeptMark (is_refused p.placed.refusal) g.0
          (marked_at_keeps g.0 p.placed.counters mappings (PermSlot p.placed.place) g.1 true Empty)

      module _ {records : List ℕ} (every : Kept k records) (c : Counters) (mappings : List ℕ) where
        new_temporary_keeps : KeptMark (new_temporary_marked c records mappings s list rows branch_sets mark)
        unfolding new_temporary_marked
        new_temporary_keeps =
            new_temporary_after_keeps (register_placed c records mappings s mark.variable mark.level mark.context Empty)
            (register_placed_good every c mappings mark.variable mark.level mark.context Empty)

        temporary_keeps :
            (register : ℕ) → k.Good register
            → KeptMark (temporary_marked c records mappings s list rows branch_sets mark register)
        unfolding temporary_marked
        temporary_keeps register number =
            either KeptMark (eqb register 0) new_temporary_keeps (marked_at_keeps every c mappings (TempRegister register) number false Empty)

        module _ (permanent : k.Kind (mark.variable % variables) false) where
          new_slot_keeps : KeptMark (new_slot_marked c records mappings s list rows branch_sets mark)
          unfolding new_slot_marked
          new_slot_keeps =
              new_slot_after_keeps (perm_placed c records list mark.variable (chunk_num mark.context))
              (perm_placed_good k every mark.variable permanent c list (chunk_num mark.context)) mappings

          slot_keeps :
              (slot : ℕ) → k.Good slot → (allocation : PermVarAllocation)
              → KeptMark (slot_marked c records mappings s list rows branch_sets mark slot allocation)
          slot_keeps slot number Pending =
              marked_at_keeps (slot_given_keeps k every mark.variable slot permanent number) c mappings (PermSlot slot) number true Empty
          slot_keeps slot number (Done shallow deep) = marked_at_keeps every c mappings (PermSlot slot) number false Empty

          permanent_keeps :
              (slot : ℕ) → k.Good slot → (allocation : PermVarAllocation)
              → KeptMark (permanent_marked c records mappings s list rows branch_sets mark slot allocation)
          unfolding permanent_marked
          permanent_keeps slot number allocation = either KeptMark (eqb slot 0) new_slot_keeps (slot_keeps slot number allocation)

        marked_by_keeps :
            (allocation : VarAlloc) → Holds k (mark.variable % variables) allocation
            → KeptMark (marked_by allocation c records mappings s list rows branch_sets mark)
        marked_by_keeps (Temp context register safety to_perm) h = temporary_keeps register h.1
        marked_by_keeps (Perm slot allocation) h = permanent_keeps h.0 slot h.1 allocation

        pub var_marked_keeps : KeptMark (var_marked c records mappings s list rows branch_sets mark)
        unfolding var_marked
        var_marked_keeps = marked_by_keeps (record_at records mark.variable).allocation (kept_at k every mark.variable)

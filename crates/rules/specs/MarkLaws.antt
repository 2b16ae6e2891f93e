-- Laws of a variable's mark: one that is not refused ends by settling the variable, and until then it changes no count.
use Rattle.std.specs.Prelude.{ℕ, ◌<◌, ◌≡◌, Bool, List, eqb}
use Rattle.std.proofs.Math.Path.{refl}
use Rattle.std.proofs.Common.{ap}
use Rattle.std.proofs.Math.Bool.{true, false}
use Rattle.std.specs.Prelude.{if◌then◌else◌}
use Rattle.sizes.specs.Sizes.{variables}
use Rattle.forms.specs.Forms.{chunk_num}
use Rattle.registers.specs.declared.RegType.{RegType}
use Rattle.registers.specs.declared.RegType.TheVariants.{Temp as TempRegister, Perm as PermSlot}
use Rattle.code_deque.specs.declared.CodeDeque.{CodeDeque}
use Rattle.code_deque.specs.declared.CodeDeque.TheVariants.{Empty}
use Rattle.variable_records.specs.declared.PermVarAllocation.{PermVarAllocation}
use Rattle.variable_records.specs.declared.PermVarAllocation.TheVariants.{Done, Pending}
use Rattle.variable_records.specs.declared.VarAlloc.{VarAlloc}
use Rattle.variable_records.specs.declared.VarAlloc.TheVariants.{Temp, Perm}
use Rattle.variable_records.specs.Rows.{record_at, temporary, is_temporary}
use Rattle.branch_stack.specs.BranchStack.{current_branch}
use Rattle.allocator_state.specs.declared.Counters.{Counters}
use Rattle.restricting_sets.specs.declared.VariableSets.{VariableSets}
use Rattle.evacuation.specs.Evacuation.{Evacuation}
use Rattle.allocation.specs.Allocation.{Placement, slot_given, perm_placed}
use Rattle.freeing.specs.Freeing.{release_of}
use Rattle.marks.specs.Marks.{RegisterPlacement, register_placed}
use Rattle.reserved_var.specs.declared.Mark.{Mark}
use Rattle.mark_var.specs.MarkVar.{Noted, Marking, VarMark, with_place, settled, finished_after, finished, noted}
use Rattle.mark_var.specs.MarkVar.{instructed_at, reserved_after, reserved_marked, marked_at, new_temporary_after, new_temporary_marked, new_slot_after, new_slot_marked}
use Rattle.mark_var.specs.MarkVar.{slot_marked, temporary_marked, permanent_marked, marked_by, var_marked}
use Rattle.rules.specs.CountsLaws.{CountsKept}
use Rattle.rules.specs.StepsLaws.{either_way, register_keeps, given_keeps, slot_keeps, instructed_keeps}
use Rattle.refusals.specs.Refusals.{is_refused}
use Rattle.refusals.specs.declared.Refusal.{Refusal}
use Rattle.std.specs.Prelude.{Option, None}
use Rattle.std.proofs.Common.{true≢false, sym, ◌∙◌}

-- a mark ends by settling its variable, on records in which every variable has its counts and kind still
pub record Settles (records list : List ℕ) (mark : Mark) (m : VarMark) : Type 0 where
  pub counters : Counters
  pub before : List ℕ
  pub kept : CountsKept records before
  pub ends :
      release_of m.records m.list (record { counters = m.marked.reached.counters; refusal = m.marked.reached.refusal })
      ≡ settled counters before list mark.context mark.variable m.marked.place

-- what was refused on the way is refused
pub unrefused :
    {A : Type 0} (P : A → Type 0) (refusal_of : A → Option Refusal) (n : Option Refusal) (a b : A) → refusal_of a ≡ n → (refusal_of b ≡ None → P b)
    → refusal_of (if is_refused n then a else b) ≡ None → P (if is_refused n then a else b)
unrefused P refusal_of n a b told on e =
    (elim (is_refused n) as (λ t. is_refused n ≡ t → refusal_of (if t then a else b) ≡ None → P (if t then a else b)) [
      | true ↦ λ t e. absurd (true≢false (sym t ∙ ap is_refused (sym told ∙ e)))
      | false ↦ λ t e. on e
    ])
    refl e

module _ (records list : List ℕ) (mark : Mark) where
  -- whatever was not refused settles
  abbrev SettlesOr : VarMark → Type 0
  SettlesOr m = m.marked.reached.refusal ≡ None → Settles records list mark m

  finished_settles :
      (n : Noted) (c : Counters) (now : List ℕ) (place : RegType) (code : CodeDeque) → CountsKept records now
      → SettlesOr (with_place (finished_after n c now list mark.variable mark.context place code) place)
  unfolding finished_after
  finished_settles n c now place code kept =
      unrefused (λ (m : Marking). Settles records list mark (with_place m place)) (λ (m : Marking). m.reached.refusal) n.refusal _ _
      refl
      (λ e. record { counters = c; before = now; kept = kept; ends = refl })

  module _ (rows branch_sets : List ℕ) where
    reserved_settles :
        (e : Evacuation) (place : RegType) (is_new : Bool) → CountsKept records e.records
        → SettlesOr (with_place (reserved_after e list rows branch_sets mark place is_new) place)
    unfolding reserved_after finished
    reserved_settles e place is_new kept =
        unrefused (λ (m : Marking). Settles records list mark (with_place m place)) (λ (m : Marking). m.reached.refusal) e.reached.refusal _ _
        refl
        (finished_settles
        (noted e.mappings rows branch_sets e.reached.counters.open_branches mark.variable place is_new)
        e.reached.counters
        e.records
        place
        e.reached.code
        kept)

    module _ (s : VariableSets) where
      marked_settles :
          (c : Counters) (now mappings : List ℕ) (place : RegType) (is_new : Bool) (code : CodeDeque) → CountsKept records now
          → SettlesOr (marked_at c now mappings s list rows branch_sets mark place is_new code)
      unfolding marked_at reserved_marked
      marked_settles c now mappings place is_new code kept =
          reserved_settles
          (instructed_at mark.level c now mappings s mark place is_new (current_branch rows c.open_branches) code)
          place
          is_new
          (instructed_keeps kept c mappings s mark.level mark place is_new (current_branch rows c.open_branches) code)

      new_temporary_settles :
          (p : RegisterPlacement) → CountsKept records p.records
          → SettlesOr (new_temporary_after p s list rows branch_sets mark)
      unfolding new_temporary_after
      new_temporary_settles p kept =
          unrefused (Settles records list mark) (λ (m : VarMark). m.marked.reached.refusal) p.placed.reached.refusal _ _
          refl
          (marked_settles p.placed.reached.counters p.records p.mappings (TempRegister p.placed.place) true p.placed.reached.code kept)

      new_slot_settles :
          (p : Placement) (mappings : List ℕ) → CountsKept records p.records
          → SettlesOr (new_slot_after p mappings s list rows branch_sets mark)
      unfolding new_slot_after
      new_slot_settles p mappings kept =
          unrefused (Settles records list mark) (λ (m : VarMark). m.marked.reached.refusal) p.placed.refusal _ _
          refl
          (marked_settles p.placed.counters p.records mappings (PermSlot p.placed.place) true Empty kept)

      module _ (c : Counters) (mappings : List ℕ) (same : CountsKept records records) (inside : mark.variable < variables) where
        temporary_settles : (register : ℕ) → SettlesOr (temporary_marked c records mappings s list rows branch_sets mark register)
        unfolding temporary_marked new_temporary_marked
        temporary_settles register =
            either_way SettlesOr (eqb register 0)
            (new_temporary_settles
            (register_placed c records mappings s mark.variable mark.level mark.context Empty)
            (register_keeps same c mappings s mark.variable mark.level mark.context Empty))
            (marked_settles c records mappings (TempRegister register) false Empty same)

        slot_settles :
            (slot : ℕ) (allocation : PermVarAllocation) → is_temporary records mark.variable ≡ false
            → SettlesOr (slot_marked c records mappings s list rows branch_sets mark slot allocation)
        slot_settles slot Pending permanent =
            marked_settles c (slot_given records mark.variable slot) mappings (PermSlot slot) true Empty
            (given_keeps same mark.variable slot permanent)
        slot_settles slot (Done shallow deep) permanent = marked_settles c records mappings (PermSlot slot) false Empty same

        permanent_settles :
            (slot : ℕ) (allocation : PermVarAllocation) → is_temporary records mark.variable ≡ false
            → SettlesOr (permanent_marked c records mappings s list rows branch_sets mark slot allocation)
        unfolding permanent_marked new_slot_marked
        permanent_settles slot allocation permanent =
            either_way SettlesOr (eqb slot 0)
            (new_slot_settles
            (perm_placed c records list mark.variable (chunk_num mark.context))
            mappings
            (slot_keeps same c list mark.variable (chunk_num mark.context) inside permanent))
            (slot_settles slot allocation permanent)

        by_settles :
            (allocation : VarAlloc) → (record_at records mark.variable).allocation ≡ allocation
            → SettlesOr (marked_by allocation c records mappings s list rows branch_sets mark)
        unfolding is_temporary temporary
        by_settles (Temp context register safety to_perm) e = temporary_settles register
        by_settles (Perm slot allocation) e = permanent_settles slot allocation (ap temporary e)

        pub var_mark_settles : SettlesOr (var_marked c records mappings s list rows branch_sets mark)
        unfolding var_marked
        var_mark_settles = by_settles (record_at records mark.variable).allocation refl

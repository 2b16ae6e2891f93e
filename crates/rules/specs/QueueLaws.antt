-- Laws of a slot that the queue of freed slots gives.
use Rattle.std.specs.Prelude.{Option, Some, None, Bool, true, false, ℕ, ◌+◌, ◌*◌, ◌<◌, ◌≡◌, refl, ◌≢◌, leb, ltb, length}
use Rattle.std.proofs.Common.{sym, ◌∙◌, arith, ltb-true}
use Rattle.std.specs.Bool.{then_some}
use Rattle.std.proofs.lemmas.Option.{none-some, same_Some}
use Rattle.std.proofs.Math.Path.{ap}
use mathlib.Core.List.{List, [], ◌∷◌}
use Rattle.sizes.specs.Sizes.{variables}
use Rattle.variable_records.specs.declared.VarSafetyStatus.TheVariants.{Needed}
use Rattle.variable_records.specs.declared.PermVarAllocation.{PermVarAllocation}
use Rattle.variable_records.specs.declared.PermVarAllocation.TheVariants.{Done, Pending}
use Rattle.variable_records.specs.declared.VarAlloc.{VarAlloc}
use Rattle.variable_records.specs.declared.VarAlloc.TheVariants.{Temp, Perm}
use Rattle.variable_records.specs.Records.{allocated, placed_alloc, placed_at}
use Rattle.variable_records.specs.Rows.{row_cells, record_at}
use Rattle.variable_records.specs.TableLaws.{record_put-same, record_put-other, record_put-length}
use Rattle.perm_free_list.specs.declared.FreedSlot.{FreedSlot}
use Rattle.perm_free_list.specs.declared.Looked.{Looked}
use Rattle.perm_free_list.specs.declared.Taken.{Taken}
use Rattle.perm_free_list.specs.PermFreeList.{pending_slot, free_slot, given_or, looked}
use Rattle.allocator_state.specs.declared.Counters.{Counters}
use Rattle.allocation.specs.Allocation.{placement, placed_in, without_front, slot_given, slot_taken, new_slot, slot_found}
use Rattle.rules.specs.StepsLaws.{either_way}

some_slot : (t : Bool) (n slot : ℕ) (held : PermVarAllocation) → then_some t n ≡ Some slot → Perm n held ≡ Perm slot held
some_slot true n slot held e = ap (λ (m : ℕ). Perm m held) (same_Some n slot e)
some_slot false n slot held e = absurd (none-some slot e)

pending-by_slot : (allocation : VarAlloc) (slot : ℕ) → pending_slot allocation ≡ Some slot → allocation ≡ Perm slot Pending
pending-by_slot (Temp context register safety to_perm) slot e = absurd (none-some slot e)
pending-by_slot (Perm n (Done shallow deep)) slot e = absurd (none-some slot e)
pending-by_slot (Perm n Pending) slot e = some_slot (ltb 0 n) n slot Pending e

some_positive : (t : Bool) (n slot : ℕ) → ltb 0 n ≡ t → then_some t n ≡ Some slot → 0 < slot
some_positive true n slot t e = omega (arith, ltb-true 0 n t, same_Some n slot e)
some_positive false n slot t e = absurd (none-some slot e)

positive-by_slot : (allocation : VarAlloc) (slot : ℕ) → pending_slot allocation ≡ Some slot → 0 < slot
positive-by_slot (Temp context register safety to_perm) slot e = absurd (none-some slot e)
positive-by_slot (Perm n (Done shallow deep)) slot e = absurd (none-some slot e)
positive-by_slot (Perm n Pending) slot e = some_positive (ltb 0 n) n slot refl e

-- a slot that is found is one, and its owner's, who is Pending
module _ (records : List ℕ) (chunk : ℕ) where
  abbrev Owned : Option Taken → Type 0
  Owned (Some taken) = (0 < taken.slot) × ((record_at records taken.owner).allocation ≡ Perm taken.slot Pending)
  Owned None = Unit {0}

  given_owned :
      (slot : Option ℕ) (dropped owner : ℕ) (rest : Looked) → pending_slot (record_at records owner).allocation ≡ slot
      → Owned rest.taken → Owned (given_or slot dropped owner rest).taken
  given_owned (Some slot) dropped owner rest e behind =
      let allocation = (record_at records owner).allocation in
      (positive-by_slot allocation slot e, pending-by_slot allocation slot e)
  given_owned None dropped owner rest e behind = behind

  pub found_owned : (dropped : ℕ) (queue : List FreedSlot) → Owned (looked records chunk dropped queue).taken
  unfolding looked free_slot
  found_owned dropped [] = tt
  found_owned dropped (entry ∷ rest) =
      either_way (λ (found : Looked). Owned found.taken) (leb chunk entry.chunk) tt
      (given_owned (free_slot records entry.variable) (dropped + 1) entry.variable (looked records chunk (dropped + 1) rest) refl
      (found_owned (dropped + 1) rest))

module _ (found : Looked) (c : Counters) (records : List ℕ) (v : ℕ) where
  pub found_none : found.taken ≡ None → slot_found found c records v ≡ new_slot (without_front c found.dropped) records v
  unfolding slot_found
  found_none none = simp none

  module _ (taken : Taken) (given : found.taken ≡ Some taken) where
    pub found_some :
        slot_found found c records v
        ≡ placement (slot_given (slot_taken records taken.owner) v taken.slot) (placed_in (without_front c found.dropped) taken.slot)
    unfolding slot_found
    found_some = simp given

    module _
        (positive : 0 < taken.slot) (size : length records ≡ variables * row_cells) (held : PermVarAllocation) (inside : v < variables) (owned : taken.owner < variables)
        (slotless : (record_at records v).allocation ≡ Perm 0 held) (pending : (record_at records taken.owner).allocation ≡ Perm taken.slot Pending) where
      another : v ≢ taken.owner
      another same =
          let e : Perm 0 held ≡ Perm taken.slot Pending = sym slotless ∙ ap (λ (u : ℕ). (record_at records u).allocation) same ∙ pending in
          let none : 0 ≡ taken.slot = cc in
          omega arith

      taken-length : length (slot_taken records taken.owner) ≡ variables * row_cells
      unfolding slot_taken
      taken-length = record_put-length records taken.owner (placed_at (record_at records taken.owner) 0) ∙ size

      pub given_to :
          (record_at (slot_given (slot_taken records taken.owner) v taken.slot) v).allocation ≡ Perm taken.slot (Done Needed Needed)
      unfolding slot_given
      given_to =
          ap (λ x. x.allocation)
          (record_put-same
          (slot_taken records taken.owner)
          v
          (allocated (record_at (slot_taken records taken.owner) v) (Perm taken.slot (Done Needed Needed)))
          taken-length)

      pub taken-from :
          (record_at (slot_given (slot_taken records taken.owner) v taken.slot) taken.owner).allocation ≡ Perm 0 Pending
      unfolding slot_given slot_taken
      taken-from =
          ap (λ x. x.allocation)
          (record_put-other
          (slot_taken records taken.owner)
          v
          taken.owner
          (allocated (record_at (slot_taken records taken.owner) v) (Perm taken.slot (Done Needed Needed)))
          inside
          owned
          another
          ∙ record_put-same records taken.owner (placed_at (record_at records taken.owner) 0) size)
          ∙ ap (λ a. placed_alloc a 0) pending

-- Every record stays of its kind, in a good place, where a term gets a place and where a variable is freed.
use Prim.Native.Nat.{ℕ, zero, suc, ◌+◌, ◌%◌}
use Rattle.std.specs.Bool.{then_some}
use Rattle.std.specs.Prelude.{Option, Some, None, Bool, true, false, leb, ltb, get_or}
use mathlib.Core.List.{List, [], ◌∷◌}
use Rattle.std.proofs.Common.{ltb-false}
use Rattle.notation.specs.ChoiceLaws.{either, by_test}
use Rattle.sizes.specs.Sizes.{variables, registers, freed_registers}
use Rattle.variable_records.specs.declared.VarSafetyStatus.TheVariants.{Needed}
use Rattle.variable_records.specs.declared.PermVarAllocation.TheVariants.{Done, Pending}
use Rattle.variable_records.specs.declared.VarAlloc.{VarAlloc}
use Rattle.variable_records.specs.declared.VarAlloc.TheVariants.{Temp, Perm}
use Rattle.variable_records.specs.Records.{allocated}
use Rattle.variable_records.specs.Rows.{record_at, record_put}
use Rattle.perm_free_list.specs.declared.FreedSlot.{FreedSlot}
use Rattle.perm_free_list.specs.declared.Looked.{Looked}
use Rattle.perm_free_list.specs.declared.Taken.{Taken}
use Rattle.perm_free_list.specs.PermFreeList.{pending_slot, free_slot, entries, given_or, looked}
use Rattle.allocator_state.specs.declared.Counters.{Counters}
use Rattle.choice.specs.Choice.{in_use, least_outside}
use Rattle.allocation.specs.declared.Popped.{Popped}
use Rattle.allocation.specs.Allocation.{popped, searched, non_var_by, non_var, without_front, slot_given, slot_taken, Placement, new_slot, slot_placed, slot_found, perm_placed}
use Rattle.freeing.specs.Freeing.{ReleaseOf, freed_as, freed, running_at, counted_or_freed}
use Rattle.invariants.specs.Lists.{All, all_at}
use Rattle.invariants.specs.Kept.{Wanted, Holds, Kept, kept_at, kept_put, kept_placed, none_good}
use Rattle.invariants.specs.OfEvacuation.{GoodChoice, outside_good}

module _ (k : Wanted) where
  -- ---- A term that is no variable

  popped_good : (c : Counters) (list : List ℕ) (left : ℕ) → All k.Good list → GoodChoice k (popped c list left).chosen
  unfolding popped
  popped_good c list zero all = tt
  popped_good c list (suc left) all =
      either (λ (p : Popped). GoodChoice k p.chosen) (in_use c (get_or list (left % freed_registers) 0))
      (popped_good c list left all)
      (all_at k.Good list (left % freed_registers) 0 all (none_good k))

  searched_good : (c : Counters) (choice : Option ℕ) → GoodChoice k choice → GoodChoice k (searched c choice).chosen
  searched_good c (Some r) g = g
  searched_good c None g = tt

  non_var_by_good :
      (c : Counters) (left : ℕ) (choice : Option ℕ) → GoodChoice k choice
      → GoodChoice k (non_var_by c left choice).chosen
  non_var_by_good c left (Some r) g = g
  non_var_by_good c left None g = searched_good c (least_outside c) (outside_good k c)

  pub non_var_good : (c : Counters) (list : List ℕ) → All k.Good list → GoodChoice k (non_var c list).chosen
  unfolding non_var
  non_var_good c list all =
      non_var_by_good c (popped c list c.freed_registers).left (popped c list c.freed_registers).chosen
      (popped_good c list c.freed_registers all)

  -- ---- A permanent variable

  some_good : (t : Bool) (slot : ℕ) → k.Good slot → GoodChoice k (then_some t slot)
  some_good true slot good = good
  some_good false slot good = tt

  pending_good : (w : ℕ) (allocation : VarAlloc) → Holds k w allocation → GoodChoice k (pending_slot allocation)
  pending_good w (Temp context register safety to_perm) h = tt
  pending_good w (Perm slot (Done shallow deep)) h = tt
  pending_good w (Perm slot Pending) h = some_good (ltb 0 slot) slot h.1

  -- a slot that is taken is good
  abbrev GoodTaken : Option Taken → Type 0
  GoodTaken (Some taken) = k.Good taken.slot
  GoodTaken None = Unit {0}

  given_good :
      (slot : Option ℕ) (dropped owner : ℕ) (rest : Looked) → GoodChoice k slot → GoodTaken rest.taken
      → GoodTaken (given_or slot dropped owner rest).taken
  given_good (Some slot) dropped owner rest good behind = good
  given_good None dropped owner rest good behind = behind

  module _ {records : List ℕ} (every : Kept k records) where
    free_slot_good : (v : ℕ) → GoodChoice k (free_slot records v)
    unfolding free_slot
    free_slot_good v = pending_good (v % variables) (record_at records v).allocation (kept_at k every v)

    -- the slot found is the old owner's
    looked_good : (chunk dropped : ℕ) (queue : List FreedSlot) → GoodTaken (looked records chunk dropped queue).taken
    unfolding looked
    looked_good chunk dropped [] = tt
    looked_good chunk dropped (entry ∷ rest) =
        either (λ (found : Looked). GoodTaken found.taken) (leb chunk entry.chunk) tt
        (given_good (free_slot records entry.variable) (dropped + 1) entry.variable (looked records chunk (dropped + 1) rest)
        (free_slot_good entry.variable)
        (looked_good chunk (dropped + 1) rest))

    pub slot_given_keeps : (v slot : ℕ) → k.Kind (v % variables) false → k.Good slot → Kept k (slot_given records v slot)
    unfolding slot_given
    slot_given_keeps v slot permanent good =
        kept_put k every v (allocated (record_at records v) (Perm slot (Done Needed Needed))) (permanent, good)

    slot_taken_keeps : (owner : ℕ) → Kept k (slot_taken records owner)
    unfolding slot_taken
    slot_taken_keeps owner = kept_placed k every owner 0 (none_good k)

  -- every record is kept, and the place is good
  abbrev pub GoodPlacement : Placement → Type 0
  GoodPlacement p = Kept k p.records × k.Good p.placed.place

  module _ {records : List ℕ} (every : Kept k records) (v : ℕ) (permanent : k.Kind (v % variables) false) where
    -- a new slot is one up to 63
    new_slot_good : (c : Counters) → GoodPlacement (new_slot c records v)
    unfolding new_slot
    new_slot_good c =
        by_test GoodPlacement (ltb registers c.perm_lb) (λ e. (every, none_good k))
        (λ e. (let good = k.small c.perm_lb (ltb-false registers c.perm_lb e) in
        (slot_given_keeps every v c.perm_lb permanent good, good)))

    slot_placed_good : (taken : Option Taken) (c : Counters) → GoodTaken taken → GoodPlacement (slot_placed taken c records v)
    slot_placed_good (Some taken) c good =
        (slot_given_keeps (slot_taken_keeps every taken.owner) v taken.slot permanent good, good)
    slot_placed_good None c good = new_slot_good c

    slot_found_good : (found : Looked) (c : Counters) → GoodTaken found.taken → GoodPlacement (slot_found found c records v)
    unfolding slot_found
    slot_found_good found c good = slot_placed_good found.taken (without_front c found.dropped) good

    pub perm_placed_good : (c : Counters) (list : List ℕ) (chunk : ℕ) → GoodPlacement (perm_placed c records list v chunk)
    unfolding perm_placed
    perm_placed_good c list chunk =
        slot_found_good (looked records chunk 0 (entries list c.first_freed_slot 0 c.freed_slots)) c (looked_good every chunk 0 _)

  -- ---- A variable that is freed, or counted

  module _ {records : List ℕ} (every : Kept k records) (c : Counters) (list : List ℕ) (chunk v : ℕ) where
    freed_as_keeps :
        (allocation : VarAlloc) → Holds k (v % variables) allocation
        → Kept k (freed_as allocation c records list chunk v).records
    freed_as_keeps (Temp context register safety to_perm) h = every
    freed_as_keeps (Perm slot allocation) h = kept_put k every v (allocated (record_at records v) (Perm slot Pending)) h

    pub freed_keeps : Kept k (freed c records list chunk v).records
    unfolding freed
    freed_keeps = freed_as_keeps (record_at records v).allocation (kept_at k every v)

    pub counted_keeps : (n : ℕ) → Kept k (record_put records v (running_at (record_at records v) n))
    counted_keeps n = kept_put k every v (running_at (record_at records v) n) (kept_at k every v)

    pub counted_or_freed_keeps : Kept k (counted_or_freed c records list chunk v).records
    unfolding counted_or_freed
    counted_or_freed_keeps =
        either (λ (r : ReleaseOf). Kept k r.records) (ltb (record_at records v).running_count (record_at records v).num_occurrences)
        (counted_keeps ((record_at records v).running_count + 1))
        freed_keeps

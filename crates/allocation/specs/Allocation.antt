-- A place for a term.
use Rattle.std.specs.Prelude.{Option, Some, None, ℕ, zero, suc, ◌+◌, ◌-◌, ◌%◌, List, ltb, get_or}
use Rattle.std.specs.Prelude.{if◌then◌else◌}
use Rattle.sizes.specs.Sizes.{registers, freed_registers, freed_slots}
use Rattle.refusals.specs.Refusals.{accepted, refused_slot}
use Rattle.bit_set.specs.BitSet.{inserted}
use Rattle.variable_records.specs.declared.VarSafetyStatus.TheVariants.{Needed}
use Rattle.variable_records.specs.declared.PermVarAllocation.TheVariants.{Done}
use Rattle.variable_records.specs.declared.VarAlloc.TheVariants.{Perm}
use Rattle.variable_records.specs.Records.{allocated, placed_at}
use Rattle.variable_records.specs.Rows.{record_at, record_put}
use Rattle.perm_free_list.specs.declared.Looked.{Looked}
use Rattle.perm_free_list.specs.declared.Taken.{Taken}
use Rattle.perm_free_list.specs.PermFreeList.{entries, looked}
use Rattle.allocator_state.specs.declared.Counters.{Counters}
use Rattle.allocator_state.specs.State.{counter_after}
use Rattle.allocator_state.specs.Counters.{with_temp_lb, with_perm_lb, with_freed_registers, with_first_freed_slot, with_freed_slots, with_in_use}
use Rattle.choice.specs.Choice.{in_use, least_outside}
use Rattle.allocation.specs.declared.Popped.{Popped}
use Rattle.allocation.specs.declared.NonVar.{NonVar}
use Rattle.allocation.specs.declared.Placed.{Placed}

-- ---- A term that is no variable: rule 8.5

-- the freed registers from their end: those in use are dropped, and the first other one is taken
unfoldable pub popped : Counters → List ℕ → ℕ → Popped
popped c list zero = record { left = zero; chosen = None }
popped c list (suc left) =
    if in_use c (get_or list (left % freed_registers) 0) then popped c list left
    else record { left = left; chosen = Some (get_or list (left % freed_registers) 0) }

abbrev pub with_popped : Counters → ℕ → ℕ → NonVar
with_popped c left r =
    record {
      counters = with_in_use (inserted c.in_use r) (with_freed_registers left c);
      chosen = Some r;
    }

-- the next search starts behind a register that was searched for, and all freed registers were dropped
abbrev pub with_searched : Counters → ℕ → NonVar
with_searched c r =
    record {
      counters = with_in_use (inserted c.in_use r) (with_temp_lb (counter_after r) (with_freed_registers 0 c));
      chosen = Some r;
    }

abbrev pub searched : Counters → Option ℕ → NonVar
searched c (Some r) = with_searched c r
searched c None = record { counters = c; chosen = None }

-- a freed register where one is taken, otherwise the least from `temp_lb` up that is not in the set
abbrev pub non_var_by : Counters → ℕ → Option ℕ → NonVar
non_var_by c left (Some r) = with_popped c left r
non_var_by c left None = searched c (least_outside c)

unfoldable pub non_var : Counters → List ℕ → NonVar
non_var c list = non_var_by c (popped c list c.freed_registers).left (popped c list c.freed_registers).chosen

-- ---- A permanent variable: rules 10.1 to 10.4

abbrev pub without_front : Counters → ℕ → Counters
without_front c dropped =
    with_freed_slots (c.freed_slots - dropped)
    (with_first_freed_slot ((c.first_freed_slot % freed_slots + dropped % freed_slots) % freed_slots) c)

-- rule 10.4: Done, and both safeties Needed
unfoldable pub slot_given : List ℕ → ℕ → ℕ → List ℕ
slot_given records v slot = record_put records v (allocated (record_at records v) (Perm slot (Done Needed Needed)))

unfoldable pub slot_taken : List ℕ → ℕ → List ℕ
slot_taken records owner = record_put records owner (placed_at (record_at records owner) 0)

-- the records, and the place or the refusal
pub record Placement : Type 0 where
  pub records : List ℕ
  pub placed : Placed

abbrev pub placement : List ℕ → Placed → Placement
placement records placed = record { records = records; placed = placed }

abbrev pub placed_in : Counters → ℕ → Placed
placed_in c place = record { counters = c; place = place; refusal = accepted }

-- rules 4.6 and 10.3: the next slot, unless that is 64
unfoldable pub new_slot : Counters → List ℕ → ℕ → Placement
new_slot c records v =
    if ltb registers c.perm_lb then placement records (record { counters = c; place = 0; refusal = refused_slot })
    else
    placement (slot_given records v c.perm_lb) (placed_in (with_perm_lb (counter_after c.perm_lb) c) c.perm_lb)

-- rules 10.1 and 10.3: the slot that the queue gives, its owner's becoming 0; otherwise the next slot
abbrev pub slot_placed : Option Taken → Counters → List ℕ → ℕ → Placement
slot_placed (Some taken) c records v =
    placement (slot_given (slot_taken records taken.owner) v taken.slot) (placed_in c taken.slot)
slot_placed None c records v = new_slot c records v

unfoldable pub slot_found : Looked → Counters → List ℕ → ℕ → Placement
slot_found found c records v = slot_placed found.taken (without_front c found.dropped) records v

unfoldable pub perm_placed : Counters → List ℕ → List ℕ → ℕ → ℕ → Placement
perm_placed c records list v chunk =
    slot_found (looked records chunk 0 (entries list c.first_freed_slot 0 c.freed_slots)) c records v

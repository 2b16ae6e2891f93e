-- Laws of a cut's mark, rule 13.6: it counts nothing and frees nothing.
use Rattle.std.specs.Prelude.{Option, Some, None, ℕ, ◌*◌, ◌≤◌, ◌<◌, true, List, eqb, ltb, length}
use Rattle.std.proofs.Math.Path.{◌≡◌, refl}
use Rattle.std.proofs.Common.{ap, ◌∙◌}
use Rattle.std.proofs.lemmas.Bool.{false≢true}
use native.Mathlib.Omega.{arith}
use Rattle.sizes.specs.Sizes.{variables, registers}
use Rattle.variable_records.specs.declared.VarSafetyStatus.TheVariants.{Needed}
use Rattle.variable_records.specs.declared.PermVarAllocation.TheVariants.{Done, Pending}
use Rattle.variable_records.specs.declared.VarAlloc.{VarAlloc}
use Rattle.variable_records.specs.declared.VarAlloc.TheVariants.{Temp, Perm}
use Rattle.variable_records.specs.Records.{allocated, placed_alloc, placed_at}
use Rattle.variable_records.specs.Rows.{row_cells, record_at, record_put, temporary, is_temporary}
use Rattle.variable_records.specs.TableLaws.{record_put-length}
use Rattle.perm_free_list.specs.declared.Looked.{Looked}
use Rattle.perm_free_list.specs.declared.Taken.{Taken}
use Rattle.allocator_state.specs.declared.Counters.{Counters}
use Rattle.choice.specs.Choice.{least_outside}
use Rattle.allocation.specs.Allocation.{Placement, without_front, slot_given, slot_taken, new_slot, slot_placed, slot_found, perm_placed}
use Rattle.allocation.specs.Allocation.{popped, searched, non_var_by, non_var}
use Rattle.other_marks.specs.OtherMarks.{CutOf, slot_cut_by, slot_cut, register_cut_by, register_cut, cut_as, cut_marked}
use Rattle.rules.specs.CountsLaws.{CountsKept, counts_same, counts_anew, put_cases}
use Rattle.rules.specs.StepsLaws.{either_way, slot_keeps}
use Rattle.refusals.specs.Refusals.{is_refused}

-- ---- Counts

module _ (records : List ℕ) (size : length records ≡ variables * row_cells) (v : ℕ) (inside : v < variables) where
  slot_cut_keeps : (p : Placement) → CountsKept records p.records → CountsKept records (slot_cut_by p).records
  unfolding slot_cut_by
  slot_cut_keeps p kept = either_way (λ (m : CutOf). CountsKept records m.records) (is_refused p.placed.refusal) kept kept

  cut_as_keeps :
      (allocation : VarAlloc) → (record_at records v).allocation ≡ allocation
      → (c : Counters) (perm_list list : List ℕ) (chunk : ℕ) → CountsKept records (cut_as allocation c records perm_list list v chunk).records
  unfolding cut_as slot_cut register_cut is_temporary temporary
  cut_as_keeps (Perm slot allocation) e c perm_list list chunk =
      let same = counts_same records size in
      either_way (λ (m : CutOf). CountsKept records m.records) (eqb slot 0)
      (slot_cut_keeps (perm_placed c records perm_list v chunk) (slot_keeps same c perm_list v chunk inside (ap temporary e)))
      same
  cut_as_keeps (Temp context register safety to_perm) e c perm_list list chunk =
      let same = counts_same records size in
      either_way (λ (m : CutOf). CountsKept records m.records) (eqb register 0)
      (elim (non_var c list).chosen as (λ chosen. CountsKept records (register_cut_by chosen (non_var c list).counters records v (record_at records v) context to_perm).records) [
        | Some r ↦ counts_anew same v _ e refl
        | None ↦ same
      ])
      same

  pub cut_keeps : (c : Counters) (perm_list list : List ℕ) (chunk : ℕ) → CountsKept records (cut_marked c records perm_list list v chunk).records
  unfolding cut_marked
  cut_keeps c perm_list list chunk = cut_as_keeps (record_at records v).allocation refl c perm_list list chunk

-- ---- The queue

-- no entry more
abbrev NoMore : Counters → Counters → Type 0
NoMore c after = after.freed_slots ≤ c.freed_slots

module _ (c : Counters) where
  non_var-adds : (chosen : Option ℕ) (left : ℕ) → NoMore c (non_var_by c left chosen).counters
  non_var-adds (Some r) left = omega arith
  non_var-adds None left = elim (least_outside c) as (λ found. NoMore c (searched c found).counters) [ Some r ↦ omega arith | None ↦ omega arith ]

  non_var-no_more : (list : List ℕ) → NoMore c (non_var c list).counters
  unfolding non_var
  non_var-no_more list = non_var-adds (popped c list c.freed_registers).chosen (popped c list c.freed_registers).left

  new_slot-no_more : (k : Counters) → NoMore c k → (records : List ℕ) (v : ℕ) → NoMore c (new_slot k records v).placed.counters
  unfolding new_slot
  new_slot-no_more k less records v =
      either_way (λ (p : Placement). NoMore c p.placed.counters) (ltb registers k.perm_lb) less less

  placed_no_more :
      (taken : Option Taken) (k : Counters) → NoMore c k → (records : List ℕ) (v : ℕ)
      → NoMore c (slot_placed taken k records v).placed.counters
  placed_no_more (Some taken) k less records v = less
  placed_no_more None k less records v = new_slot-no_more k less records v

  found_no_more : (found : Looked) (records : List ℕ) (v : ℕ) → NoMore c (slot_found found c records v).placed.counters
  unfolding slot_found
  found_no_more found records v =
      let less : NoMore c (without_front c found.dropped) = omega arith in
      placed_no_more found.taken (without_front c found.dropped) less records v

  slot_cut-no_more : (p : Placement) → NoMore c p.placed.counters → NoMore c (slot_cut_by p).marked.reached.counters
  unfolding slot_cut_by
  slot_cut-no_more p less = either_way (λ (m : CutOf). NoMore c m.marked.reached.counters) (is_refused p.placed.refusal) less less

  cut_as-no_more :
      (allocation : VarAlloc) (records perm_list list : List ℕ) (v chunk : ℕ)
      → NoMore c (cut_as allocation c records perm_list list v chunk).marked.reached.counters
  unfolding cut_as slot_cut register_cut perm_placed
  cut_as-no_more (Perm slot allocation) records perm_list list v chunk =
      either_way (λ (m : CutOf). NoMore c m.marked.reached.counters) (eqb slot 0)
      (slot_cut-no_more (perm_placed c records perm_list v chunk) (found_no_more _ records v))
      (omega arith)
  cut_as-no_more (Temp context register safety to_perm) records perm_list list v chunk =
      either_way (λ (m : CutOf). NoMore c m.marked.reached.counters) (eqb register 0)
      (elim (non_var c list).chosen as
      (λ chosen. NoMore c (register_cut_by chosen (non_var c list).counters records v (record_at records v) context to_perm).marked.reached.counters) [
        | Some r ↦ non_var-no_more list
        | None ↦ non_var-no_more list
      ])
      (omega arith)

  pub cut_no_more :
      (records perm_list list : List ℕ) (v chunk : ℕ)
      → (cut_marked c records perm_list list v chunk).marked.reached.counters.freed_slots ≤ c.freed_slots
  unfolding cut_marked
  cut_no_more records perm_list list v chunk = cut_as-no_more (record_at records v).allocation records perm_list list v chunk

-- ---- What is Pending

-- one that is Pending was so before
abbrev PendingBefore : VarAlloc → VarAlloc → Type 0
PendingBefore old new = (slot : ℕ) → new ≡ Perm slot Pending → (was : ℕ) × (old ≡ Perm was Pending)

abbrev NonePending : List ℕ → List ℕ → Type 0
NonePending before after = (u : ℕ) → u < variables → PendingBefore (record_at before u).allocation (record_at after u).allocation

same-pending : (allocation : VarAlloc) → PendingBefore allocation allocation
same-pending allocation slot e = (slot, e)

placed_pending : (allocation : VarAlloc) (place : ℕ) → PendingBefore allocation (placed_alloc allocation place)
placed_pending (Temp context register safety to_perm) place slot e = absurd (let z : ◌≡◌ {A = ℕ} 0 1 = cc in omega arith)
placed_pending (Perm was (Done shallow deep)) place slot e = absurd (let z : ◌≡◌ {A = ℕ} 0 1 = cc in omega arith)
placed_pending (Perm was Pending) place slot e = (was, refl)

given_pending : (old : VarAlloc) (place : ℕ) → PendingBefore old (Perm place (Done Needed Needed))
given_pending old place slot e = absurd (let z : ◌≡◌ {A = ℕ} 0 1 = cc in omega arith)

-- one record put anew
put-pending :
    (before records : List ℕ) → length records ≡ variables * row_cells → NonePending before records
    → (w : ℕ) (allocation : VarAlloc) → PendingBefore (record_at records w).allocation allocation
    → NonePending before (record_put records w (allocated (record_at records w) allocation))
put-pending before records size none w allocation pending u inside slot e =
    let was =
    put_cases records size w (allocated (record_at records w) allocation)
    (λ old new. PendingBefore old.allocation new.allocation)
    pending
    (λ x. same-pending x.allocation)
    u
    inside
    slot
    e in
    none u inside was.0 was.1

module _ (records : List ℕ) (size : length records ≡ variables * row_cells) (v : ℕ) where
  unpended : NonePending records records
  unpended u inside = same-pending (record_at records u).allocation

  new_slot-pending : (c : Counters) → NonePending records (new_slot c records v).records
  unfolding new_slot slot_given
  new_slot-pending c =
      either_way (λ (p : Placement). NonePending records p.records) (ltb registers c.perm_lb)
      unpended
      (put-pending records records size unpended v _ (given_pending (record_at records v).allocation c.perm_lb))

  taken-pending : (owner : ℕ) → NonePending records (slot_taken records owner)
  unfolding slot_taken
  taken-pending owner = put-pending records records size unpended owner _ (placed_pending (record_at records owner).allocation 0)

  taken_size : (owner : ℕ) → length (slot_taken records owner) ≡ variables * row_cells
  unfolding slot_taken
  taken_size owner = record_put-length records owner (placed_at (record_at records owner) 0) ∙ size

  placed-pending : (taken : Option Taken) (c : Counters) → NonePending records (slot_placed taken c records v).records
  unfolding slot_given
  placed-pending (Some taken) c =
      put-pending
      records
      (slot_taken records taken.owner)
      (taken_size taken.owner)
      (taken-pending taken.owner)
      v
      _
      (given_pending (record_at (slot_taken records taken.owner) v).allocation taken.slot)
  placed-pending None c = new_slot-pending c

  found_pending : (found : Looked) (c : Counters) → NonePending records (slot_found found c records v).records
  unfolding slot_found
  found_pending found c = placed-pending found.taken (without_front c found.dropped)

  slot_cut-pending : (p : Placement) → NonePending records p.records → NonePending records (slot_cut_by p).records
  unfolding slot_cut_by
  slot_cut-pending p none = either_way (λ (m : CutOf). NonePending records m.records) (is_refused p.placed.refusal) none none

  temporary-pending : (old : VarAlloc) (new : VarAlloc) → temporary new ≡ true → PendingBefore old new
  unfolding temporary
  temporary-pending old (Temp context register safety to_perm) t slot e = absurd (let z : ◌≡◌ {A = ℕ} 0 1 = cc in omega arith)
  temporary-pending old (Perm was allocation) t slot e = absurd (false≢true t)

  cut_as-pending :
      (allocation : VarAlloc) (c : Counters) (perm_list list : List ℕ) (chunk : ℕ)
      → NonePending records (cut_as allocation c records perm_list list v chunk).records
  unfolding cut_as slot_cut register_cut perm_placed temporary
  cut_as-pending (Perm slot allocation) c perm_list list chunk =
      either_way (λ (m : CutOf). NonePending records m.records) (eqb slot 0)
      (slot_cut-pending (perm_placed c records perm_list v chunk) (found_pending _ c))
      unpended
  cut_as-pending (Temp context register safety to_perm) c perm_list list chunk =
      either_way (λ (m : CutOf). NonePending records m.records) (eqb register 0)
      (elim (non_var c list).chosen as
      (λ chosen. NonePending records (register_cut_by chosen (non_var c list).counters records v (record_at records v) context to_perm).records) [
        | Some r ↦ put-pending records records size unpended v _ (temporary-pending (record_at records v).allocation _ refl)
        | None ↦ unpended
      ])
      unpended

  pub cut_none-pending :
      (c : Counters) (perm_list list : List ℕ) (chunk u slot : ℕ) → u < variables
      → (record_at (cut_marked c records perm_list list v chunk).records u).allocation ≡ Perm slot Pending
      → (was : ℕ) × ((record_at records u).allocation ≡ Perm was Pending)
  unfolding cut_marked
  cut_none-pending c perm_list list chunk u slot inside e =
      cut_as-pending (record_at records v).allocation c perm_list list chunk u inside slot e

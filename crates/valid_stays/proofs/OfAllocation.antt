-- A valid state stays valid where a term gets a place and where a variable is freed.
use Rattle.std.specs.Bool.{then_some}
use Rattle.std.specs.Prelude.{Option, Some, None, Bool, true, ℕ, zero, suc, ◌+◌, ◌%◌, ◌≤◌, ◌<◌, ◌≡◌, refl, false, leb, ltb, length, get_or}
use Rattle.std.proofs.Common.{sym, subst, arith, true≢false}
use mathlib.Core.List.{List, [], ◌∷◌}
use borrow.Author.Tests.{ltb-true, ltb-false, leb-false}
use Rattle.notation.specs.ChoiceLaws.{either, by_test}
use Rattle.refusals.specs.Refusals.{is_refused}
use Rattle.sizes.specs.Sizes.{registers, chunks, counts, freed_registers, freed_slots}
use Rattle.variable_records.specs.declared.VarSafetyStatus.TheVariants.{Needed}
use Rattle.variable_records.specs.declared.PermVarAllocation.TheVariants.{Done, Pending}
use Rattle.variable_records.specs.declared.VarAlloc.{VarAlloc}
use Rattle.variable_records.specs.declared.VarAlloc.TheVariants.{Temp, Perm}
use Rattle.variable_records.specs.Records.{allocated}
use Rattle.variable_records.specs.Rows.{record_at, record_put}
use Rattle.perm_free_list.specs.declared.FreedSlot.{FreedSlot}
use Rattle.perm_free_list.specs.declared.Looked.{Looked}
use Rattle.perm_free_list.specs.declared.Taken.{Taken}
use Rattle.perm_free_list.specs.PermFreeList.{pending_slot, free_slot, entries, given_or, looked}
use Rattle.allocator_state.specs.declared.Counters.{Counters}
use Rattle.allocator_state.specs.State.{counter_after}
use Rattle.choice.specs.Choice.{in_use, least_outside}
use Rattle.allocation.specs.declared.Popped.{Popped}
use Rattle.allocation.specs.declared.NonVar.{NonVar}
use Rattle.allocation.specs.Allocation.{popped, searched, non_var_by, non_var, slot_given, slot_taken, Placement, new_slot, slot_placed, slot_found, perm_placed}
use Rattle.freeing.specs.Freeing.{Release, pushed_free, ReleaseOf, freed_as, freed as freeing, running_at, counted_or_freed}
use Rattle.valid_stays.specs.Fits.{Kinds, Placed, AllocFits, EntryFits, Queue, Freed, Valid}
use Rattle.valid_stays.proofs.RecordsFit.{record_fits}
use Rattle.valid_stays.proofs.TablesFit.{counter_after_lem, queue_pushed}
use Rattle.valid_stays.proofs.Steps.{put_valid, placed_valid, used_valid, search_valid, slot_valid, fewer_valid, front_valid}
use Rattle.valid_stays.proofs.OfEvacuation.{PlacedChoice, outside_placed}

-- ---- A freed register

pub record PoppedFits (most : ℕ) (p : Popped) : Type 0 where
  pub left : p.left ≤ most
  pub chosen : PlacedChoice p.chosen

popped-fits :
    (c : Counters) {list : List ℕ} → Freed c.freed_registers list
    → (left : ℕ) → left ≤ c.freed_registers → left ≤ freed_registers
    → (most : ℕ) → left ≤ most → PoppedFits most (popped c list left)
unfolding popped
popped-fits c all zero less small most h = record { left = omega arith; chosen = tt }
popped-fits c {list} all (suc left) less small most h =
    let inside : left % freed_registers ≡ left = omega arith in
    either (PoppedFits most) (in_use c (get_or list (left % freed_registers) 0))
    (popped-fits c all left (omega arith) (omega arith) most (omega arith))
    (record {
      left = omega arith;
      chosen = subst (λ (i : ℕ). Placed (get_or list i 0)) (sym inside) (all.register left (omega arith));
    })

module _ (k : Kinds) (records mappings queue freed rows sets : List ℕ) where
  pub record NonVarValid (n : NonVar) : Type 0 where
    pub valid : Valid k n.counters records mappings queue freed rows sets
    pub chosen : PlacedChoice n.chosen

module _ (k : Kinds) (mappings queue freed rows sets : List ℕ) where
  -- the place of a placement that is not refused is a slot
  pub record PlacementValid (p : Placement) : Type 0 where
    pub valid : Valid k p.placed.counters p.records mappings queue freed rows sets
    pub place : is_refused p.placed.refusal ≡ false → Placed p.placed.place

module _ (k : Kinds) (mappings freed rows sets : List ℕ) where
  abbrev pub ReleaseValid : ReleaseOf → Type 0
  ReleaseValid r = Valid k r.released.counters r.records mappings r.list freed rows sets

-- every entry of the queue fits
abbrev AllFit : Kinds → List FreedSlot → Type 0
AllFit k [] = Unit {0}
AllFit k (entry ∷ rest) = EntryFits k entry × AllFit k rest

entries_fit :
    (k : Kinds) {first count : ℕ} {list : List ℕ} → Queue k first count list → (i n : ℕ) → i + n ≤ count
    → AllFit k (entries list first i n)
unfolding entries
entries_fit k queue i zero h = tt
entries_fit k queue i (suc n) h = (queue.entry i (omega arith), entries_fit k queue (suc i) n (omega arith))

entries-length : (list : List ℕ) (first i n : ℕ) → length (entries list first i n) ≡ n
unfolding entries
entries-length list first i zero = refl
entries-length list first i (suc n) = let e = entries-length list first (suc i) n in omega arith

-- a slot that is taken is one, and its owner's
abbrev pub TakenFits : Kinds → Option Taken → Type 0
TakenFits k (Some taken) = Placed taken.slot × (taken.owner < k.count)
TakenFits k None = Unit {0}

pub record LookedFits (k : Kinds) (most : ℕ) (found : Looked) : Type 0 where
  pub dropped : found.dropped ≤ most
  pub taken : TakenFits k found.taken

some-fits : (t : Bool) (slot : ℕ) → ltb 0 slot ≡ t → slot ≤ registers → PlacedChoice (then_some t slot)
some-fits true slot t small = record { some = ltb-true 0 slot t; last = small }
some-fits false slot t small = tt

pending-fits : (k : Kinds) (w : ℕ) (allocation : VarAlloc) → AllocFits k w allocation → PlacedChoice (pending_slot allocation)
pending-fits k w (Temp context register safety to_perm) h = tt
pending-fits k w (Perm slot (Done shallow deep)) h = tt
pending-fits k w (Perm slot Pending) h = some-fits (ltb 0 slot) slot refl h.1

given-fits :
    (k : Kinds) (slot : Option ℕ) (dropped owner most : ℕ) (rest : Looked) → PlacedChoice slot → owner < k.count → dropped ≤ most
    → LookedFits k most rest → LookedFits k most (given_or slot dropped owner rest)
given-fits k (Some slot) dropped owner most rest placed known less behind = record { dropped = less; taken = (placed, known) }
given-fits k None dropped owner most rest placed known less behind = behind

module _ (k : Kinds) {c : Counters} {records mappings queue freed rows sets : List ℕ} (h : Valid k c records mappings queue freed rows sets) where
  -- ---- A term that is no variable

  searched_valid : (choice : Option ℕ) → PlacedChoice choice → NonVarValid k records mappings queue freed rows sets (searched c choice)
  searched_valid (Some r) g =
      record {
        valid = used_valid k (search_valid k (fewer_valid k h 0 (omega arith)) (counter_after r) (counter_after_lem r)) r g.some;
        chosen = g;
      }
  searched_valid None g = record { valid = h; chosen = tt }

  non_var_by_valid :
      (left : ℕ) → left ≤ c.freed_registers → (choice : Option ℕ) → PlacedChoice choice
      → NonVarValid k records mappings queue freed rows sets (non_var_by c left choice)
  non_var_by_valid left less (Some r) g = record { valid = used_valid k (fewer_valid k h left less) r g.some; chosen = g }
  non_var_by_valid left less None g = searched_valid (least_outside c) (outside_placed k c h.counted)

  pub non_var_valid : NonVarValid k records mappings queue freed rows sets (non_var c freed)
  unfolding non_var
  non_var_valid =
      let p = popped-fits c h.given c.freed_registers (omega arith) h.counted.freed c.freed_registers (omega arith) in
      non_var_by_valid (popped c freed c.freed_registers).left p.left (popped c freed c.freed_registers).chosen p.chosen

  -- ---- A permanent variable

  free_slot-fits : (v : ℕ) → v < k.count → PlacedChoice (free_slot records v)
  unfolding free_slot
  free_slot-fits v known = pending-fits k v (record_at records v).allocation (record_fits k h.recorded v known).alloc

  -- the slot found is the old owner's
  looked-fits :
      (chunk dropped : ℕ) (list : List FreedSlot) → AllFit k list → (most : ℕ) → dropped + length list ≤ most
      → LookedFits k most (looked records chunk dropped list)
  unfolding looked
  looked-fits chunk dropped [] all most less = record { dropped = omega arith; taken = tt }
  looked-fits chunk dropped (entry ∷ rest) all most less =
      either (LookedFits k most) (leb chunk entry.chunk)
      (record { dropped = omega arith; taken = tt })
      (given-fits k (free_slot records entry.variable) (dropped + 1) entry.variable most (looked records chunk (dropped + 1) rest)
      (free_slot-fits entry.variable all.0.variable)
      all.0.variable
      (omega arith)
      (looked-fits chunk (dropped + 1) rest all.1 most (omega arith)))

  module _ (v : ℕ) (known : v < k.count) (permanent : k.temporary v ≡ false) where
    pub slot_given_valid : (slot : ℕ) → slot ≤ registers → Valid k c (slot_given records v slot) mappings queue freed rows sets
    unfolding slot_given
    slot_given_valid slot small =
        let fits = record_fits k h.recorded v known in
        put_valid k h v known (allocated (record_at records v) (Perm slot (Done Needed Needed)))
        (record { alloc = (permanent, small); occurrences = fits.occurrences; running = fits.running })

  slot_taken_valid : (owner : ℕ) → owner < k.count → Valid k c (slot_taken records owner) mappings queue freed rows sets
  unfolding slot_taken
  slot_taken_valid owner known = placed_valid k h owner known 0 (omega arith)

module _ (k : Kinds) (v : ℕ) (known : v < k.count) (permanent : k.temporary v ≡ false) where
  module _ {c : Counters} {records mappings queue freed rows sets : List ℕ} (h : Valid k c records mappings queue freed rows sets) where
    -- a new slot is one up to 63
    new_slot_valid : PlacementValid k mappings queue freed rows sets (new_slot c records v)
    unfolding new_slot
    new_slot_valid =
        by_test (PlacementValid k mappings queue freed rows sets) (ltb registers c.perm_lb)
        (λ e. record { valid = h; place = λ none. absurd (true≢false none) })
        (λ e. (let small = ltb-false registers c.perm_lb e in
        record {
          valid = slot_valid k (slot_given_valid k h v known permanent c.perm_lb small)
              (counter_after c.perm_lb) (counter_after_lem c.perm_lb);
          place = λ none. record { some = h.counted.slot.some; last = small };
        }))

    slot_placed_valid :
        (taken : Option Taken) → TakenFits k taken
        → PlacementValid k mappings queue freed rows sets (slot_placed taken c records v)
    slot_placed_valid (Some taken) fits =
        record {
          valid = slot_given_valid k (slot_taken_valid k h taken.owner fits.1) v known permanent taken.slot fits.0.last;
          place = λ none. fits.0;
        }
    slot_placed_valid None fits = new_slot_valid

  module _ {c : Counters} {records mappings queue freed rows sets : List ℕ} (h : Valid k c records mappings queue freed rows sets) where
    slot_found_valid :
        (found : Looked) → LookedFits k c.freed_slots found
        → PlacementValid k mappings queue freed rows sets (slot_found found c records v)
    unfolding slot_found
    slot_found_valid found fits =
        slot_placed_valid (front_valid k h found.dropped fits.dropped) found.taken fits.taken

    pub perm_placed_valid : (chunk : ℕ) → PlacementValid k mappings queue freed rows sets (perm_placed c records queue v chunk)
    unfolding perm_placed
    perm_placed_valid chunk =
        let list = entries queue c.first_freed_slot 0 c.freed_slots in
        slot_found_valid (looked records chunk 0 list)
        (looked-fits k h chunk 0 list (entries_fit k h.queued 0 c.freed_slots (omega arith)) c.freed_slots
        (omega (arith, entries-length queue c.first_freed_slot 0 c.freed_slots)))

-- ---- A variable that is freed, or counted

module _ (k : Kinds) (v : ℕ) (known : v < k.count) where
  module _ {c : Counters} {records mappings queue freed rows sets : List ℕ} (h : Valid k c records mappings queue freed rows sets) where
    pub running_valid :
        (n : ℕ) → n ≤ counts
        → Valid k c (record_put records v (running_at (record_at records v) n)) mappings queue freed rows sets
    running_valid n less =
        let was = record_fits k h.recorded v known in
        put_valid k h v known (running_at (record_at records v) n)
        (record { alloc = was.alloc; occurrences = was.occurrences; running = less })

module _ (k : Kinds) (chunk v : ℕ) (small : chunk ≤ chunks) (known : v < k.count) where
  abbrev Pushed : List ℕ → List ℕ → List ℕ → List ℕ → List ℕ → Release → Type 0
  Pushed records mappings freed rows sets r = Valid k r.released.counters records mappings r.list freed rows sets

  module _ {c : Counters} {records mappings queue freed rows sets : List ℕ} (h : Valid k c records mappings queue freed rows sets) where
    pushed_valid : Pushed records mappings freed rows sets (pushed_free c queue chunk v)
    unfolding pushed_free
    pushed_valid =
        by_test (Pushed records mappings freed rows sets) (leb freed_slots c.freed_slots) (λ e. h)
        (λ e. (let room = leb-false freed_slots c.freed_slots e in
        let n = h.counted in
        record {
          counted =
              record {
                argument = n.argument;
                search_start = n.search_start;
                slot = n.slot;
                arity = n.arity;
                tail = n.tail;
                records = n.records;
                seen = n.seen;
                freed = n.freed;
                front = n.front;
                queued = omega arith;
                opened = n.opened;
                usable = n.usable;
              };
          recorded = h.recorded;
          mapped = h.mapped;
          queued = queue_pushed k h.queued (record { chunk = chunk; variable = v }) (record { chunk = small; variable = known }) room;
          given = h.given;
          opened = h.opened;
        }))

  module _ {c : Counters} {records mappings queue freed rows sets : List ℕ} (h : Valid k c records mappings queue freed rows sets) where
    freed_as_valid :
        (allocation : VarAlloc) → AllocFits k v allocation
        → ReleaseValid k mappings freed rows sets (freed_as allocation c records queue chunk v)
    freed_as_valid (Temp context register safety to_perm) fits = h
    freed_as_valid (Perm slot allocation) fits =
        let was = record_fits k h.recorded v known in
        pushed_valid
        (put_valid k h v known (allocated (record_at records v) (Perm slot Pending))
        (record { alloc = fits; occurrences = was.occurrences; running = was.running }))

    pub freed_valid : ReleaseValid k mappings freed rows sets (freeing c records queue chunk v)
    unfolding freeing
    freed_valid = freed_as_valid (record_at records v).allocation (record_fits k h.recorded v known).alloc

    pub counted_or_freed_valid : ReleaseValid k mappings freed rows sets (counted_or_freed c records queue chunk v)
    unfolding counted_or_freed
    counted_or_freed_valid =
        let was = record_fits k h.recorded v known in
        let running = (record_at records v).running_count in
        by_test (ReleaseValid k mappings freed rows sets) (ltb running (record_at records v).num_occurrences)
        (λ e. running_valid k v known h (running + 1) (omega (arith, was.occurrences, ltb-true running (record_at records v).num_occurrences e)))
        (λ e. freed_valid)

-- Laws of settling, rule 12.10: the place's number is in use, and the variable is counted or freed.
use Rattle.std.specs.Prelude.{ℕ, ◌+◌, ◌*◌, ◌≤◌, ◌<◌, ◌≡◌, Bool, true, false, List, [], ◌∷◌, ◌++◌, leb, length}
use Rattle.std.proofs.Math.Path.{refl, ap}
use Rattle.std.proofs.Common.{sym, ◌∙◌}
use Rattle.std.proofs.Math.Bool.{or-true}
use Rattle.std.proofs.lemmas.Bool.{false≢true}
use borrow.Author.Tests.{lt-ltb, le-ltb, leb-false, eq-eqb}
use Rattle.std.specs.Prelude.{if◌then◌else◌}
use Rattle.sizes.specs.Sizes.{variables, registers, freed_slots}
use Rattle.bit_set.specs.BitSet.{has}
use Rattle.bit_set.specs.BitSetLaws.{has-inserted}
use Rattle.forms.specs.declared.GenContext.{GenContext}
use Rattle.forms.specs.Forms.{chunk_num}
use Rattle.registers.specs.declared.RegType.{RegType}
use Rattle.variable_records.specs.declared.VarSafetyStatus.{VarSafetyStatus}
use Rattle.variable_records.specs.declared.PermVarAllocation.{PermVarAllocation}
use Rattle.variable_records.specs.declared.PermVarAllocation.TheVariants.{Pending}
use Rattle.variable_records.specs.declared.VarAlloc.{VarAlloc}
use Rattle.variable_records.specs.declared.VarAlloc.TheVariants.{Temp, Perm}
use Rattle.variable_records.specs.declared.VariableRecord.{VariableRecord}
use Rattle.variable_records.specs.Records.{allocated, placed_alloc, placed_at}
use Rattle.variable_records.specs.Rows.{row_cells, record_at, record_put, temporary}
use Rattle.variable_records.specs.TableLaws.{record_put-same, record_put-length}
use Rattle.perm_free_list.specs.declared.FreedSlot.{FreedSlot}
use Rattle.perm_free_list.specs.PermFreeList.{entry_cells, entry_put, entries}
use Rattle.perm_free_list.specs.TableLaws.{entries-push}
use Rattle.refusals.specs.Refusals.{refused_full}
use Rattle.registers.specs.Registers.{number_of_place}
use Rattle.allocator_state.specs.declared.Counters.{Counters}
use Rattle.allocator_state.specs.Counters.{with_freed_slots}
use Rattle.freeing.specs.Freeing.{ReleaseOf, release_of, Release, release, kept, with_records, pushed_free, freed, running_at, counted_or_freed}
use Rattle.mark_var.specs.MarkVar.{settled}
use Rattle.std.specs.Prelude.{None}
use Rattle.std.proofs.lemmas.Option.{none-some}

-- a push that is not refused puts its variable behind all others
pushed_joins :
    (c : Counters) (list : List ℕ) (chunk v : ℕ) → length list ≡ freed_slots * entry_cells → (pushed_free c list chunk v).released.refusal ≡ None
    → entries
    (pushed_free c list chunk v).list
    (pushed_free c list chunk v).released.counters.first_freed_slot
    0
    (pushed_free c list chunk v).released.counters.freed_slots
    ≡ entries list c.first_freed_slot 0 c.freed_slots ++ (record { chunk = chunk; variable = v } ∷ [])
unfolding pushed_free
pushed_joins c list chunk v size accepted =
    (elim (leb freed_slots c.freed_slots) as
    (λ t. leb freed_slots c.freed_slots ≡ t → (push_of t).released.refusal ≡ None → Joined (push_of t)) [
      | true ↦ λ t e. absurd (none-some _ (sym e))
      | false ↦ λ t e. entries-push list c.first_freed_slot c.freed_slots (record { chunk = chunk; variable = v }) size (leb-false freed_slots c.freed_slots t)
    ])
    refl accepted
  where
    push_of : Bool → Release
    push_of t = if t then release list (record { counters = c; refusal = refused_full }) else release (entry_put list c.first_freed_slot c.freed_slots (record { chunk = chunk; variable = v })) (kept (with_freed_slots (c.freed_slots + 1) c))

    Joined : Release → Type 0
    Joined r =
        entries r.list r.released.counters.first_freed_slot 0 r.released.counters.freed_slots
        ≡ entries list c.first_freed_slot 0 c.freed_slots ++ (record { chunk = chunk; variable = v } ∷ [])

module _ (c : Counters) (records list : List ℕ) (context : GenContext) (v : ℕ) (place : RegType) where
  pub settled-in_use :
      number_of_place place ≤ registers
      → has (settled c records list context v place).released.counters.in_use (number_of_place place) ≡ true
  unfolding settled
  settled-in_use inside =
      let same = eq-eqb (number_of_place place) (number_of_place place) refl in
      has-inserted _ (number_of_place place) (number_of_place place) inside ∙ simp (same, or-true)

  -- the records with the place stored
  abbrev stored : List ℕ
  stored = record_put records v (placed_at (record_at records v) (number_of_place place))

  module _ (size : length records ≡ variables * row_cells) where
    stored_record : record_at stored v ≡ placed_at (record_at records v) (number_of_place place)
    stored_record = record_put-same records v (placed_at (record_at records v) (number_of_place place)) size

    stored_size : length stored ≡ variables * row_cells
    stored_size = record_put-length records v (placed_at (record_at records v) (number_of_place place)) ∙ size

    -- below its occurrences
    module _ (below : (record_at records v).running_count < (record_at records v).num_occurrences) where
      counted-below :
          counted_or_freed c stored list (chunk_num context) v
          ≡ record {
            records = record_put stored v (running_at (record_at stored v) ((record_at stored v).running_count + 1));
            list = list;
            released = kept c;
          }
      unfolding counted_or_freed
      counted-below =
          let fewer = lt-ltb (record_at stored v).running_count (record_at stored v).num_occurrences (rw stored_record below) in
          simp fewer

      pub settled-counts :
          ((record_at (settled c records list context v place).records v).running_count ≡ (record_at records v).running_count + 1)
          × ((settled c records list context v place).list ≡ list)
      unfolding settled
      settled-counts = (
        ap (λ (r : ReleaseOf). (record_at r.records v).running_count) counted-below
            ∙ ap (λ x. x.running_count) (record_put-same stored v (running_at (record_at stored v) ((record_at stored v).running_count + 1)) stored_size)
            ∙ ap (λ x. x.running_count + 1) stored_record,
        ap (λ (r : ReleaseOf). r.list) counted-below,
      )

    -- no longer below
    module _ (all : (record_at records v).num_occurrences ≤ (record_at records v).running_count) where
      freed_then : counted_or_freed c stored list (chunk_num context) v ≡ freed c stored list (chunk_num context) v
      unfolding counted_or_freed
      freed_then =
          let fewer = le-ltb (record_at stored v).running_count (record_at stored v).num_occurrences (rw stored_record all) in
          simp fewer

      -- a temporary: nothing is freed
      module _ (at : GenContext) (register : ℕ) (safety : VarSafetyStatus) (to_perm : ℕ) (e : (record_at records v).allocation ≡ Temp at register safety to_perm) where
        freed-temporary : freed c stored list (chunk_num context) v ≡ release_of stored list (kept c)
        unfolding freed
        freed-temporary =
            let here = ap (λ x. x.allocation) stored_record ∙ ap (λ a. placed_alloc a (number_of_place place)) e in
            simp here

        pub settled_leaves :
            ((record_at (settled c records list context v place).records v).running_count ≡ (record_at records v).running_count)
            × ((settled c records list context v place).list ≡ list)
        unfolding settled
        settled_leaves = (
          ap (λ (r : ReleaseOf). (record_at r.records v).running_count) (freed_then ∙ freed-temporary) ∙ ap (λ x. x.running_count) stored_record,
          ap (λ (r : ReleaseOf). r.list) (freed_then ∙ freed-temporary),
        )

      -- a permanent variable
      module _ (slot : ℕ) (allocation : PermVarAllocation) (e : (record_at records v).allocation ≡ Perm slot allocation) where
        -- it is Pending in its place
        abbrev pending : VariableRecord
        pending = allocated (record_at stored v) (Perm (number_of_place place) Pending)

        freed_permanent :
            freed c stored list (chunk_num context) v ≡ with_records (record_put stored v pending) (pushed_free c list (chunk_num context) v)
        unfolding freed
        freed_permanent =
            let here = ap (λ x. x.allocation) stored_record ∙ ap (λ a. placed_alloc a (number_of_place place)) e in
            simp here

        ends_freed :
            counted_or_freed c stored list (chunk_num context) v ≡ with_records (record_put stored v pending) (pushed_free c list (chunk_num context) v)
        ends_freed = freed_then ∙ freed_permanent

        pub settled-pending :
            ((record_at (settled c records list context v place).records v).allocation ≡ Perm (number_of_place place) Pending)
            × ((record_at (settled c records list context v place).records v).running_count ≡ (record_at records v).running_count)
        unfolding settled
        settled-pending =
            let put = ap (λ (r : ReleaseOf). record_at r.records v) ends_freed ∙ record_put-same stored v pending stored_size in (
              ap (λ x. x.allocation) put,
              ap (λ x. x.running_count) put ∙ ap (λ x. x.running_count) stored_record,
            )

        -- it joins the queue
        pub settled_joins :
            length list ≡ freed_slots * entry_cells
            → (settled c records list context v place).released.refusal ≡ None
            → (older : List FreedSlot)
            × (entries
            (settled c records list context v place).list
            (settled c records list context v place).released.counters.first_freed_slot
            0
            (settled c records list context v place).released.counters.freed_slots
            ≡ older ++ (record { chunk = chunk_num context; variable = v } ∷ []))
        unfolding settled
        settled_joins sized accepted =
            let joined = pushed_joins c list (chunk_num context) v sized (sym (ap (λ (r : ReleaseOf). r.released.refusal) ends_freed) ∙ accepted) in (
              entries list c.first_freed_slot 0 c.freed_slots,
              ap (λ (r : ReleaseOf). entries r.list r.released.counters.first_freed_slot 0 r.released.counters.freed_slots) ends_freed
                  ∙ joined,
            )

-- ---- By kind

pub permanent_record :
    (allocation : VarAlloc) → temporary allocation ≡ false
    → (slot : ℕ) × (held : PermVarAllocation) × (allocation ≡ Perm slot held)
unfolding temporary
permanent_record (Temp context register safety to_perm) e = absurd (false≢true (sym e))
permanent_record (Perm slot held) e = (slot, held, refl)

pub temporary_record :
    (allocation : VarAlloc) → temporary allocation ≡ true
    → (at : GenContext) × (register : ℕ) × (safety : VarSafetyStatus) × (to_perm : ℕ) × (allocation ≡ Temp at register safety to_perm)
unfolding temporary
temporary_record (Temp context register safety to_perm) e = (context, register, safety, to_perm, refl)
temporary_record (Perm slot held) e = absurd (false≢true e)

-- A valid state stays valid where one number changes, and where one table does.
use Rattle.std.specs.Prelude.{ℕ, ◌+◌, ◌≤◌, ◌<◌, ◌≡◌, false, List, set}
use Rattle.std.proofs.Common.{arith}
use Rattle.sizes.specs.Sizes.{registers, freed_registers, open_branches}
use Rattle.bit_set.specs.BitSet.{has, inserted}
use Rattle.variable_records.specs.declared.VariableRecord.{VariableRecord}
use Rattle.variable_records.specs.Records.{placed_at}
use Rattle.variable_records.specs.Rows.{record_at, record_put}
use Rattle.shallow_temp_mappings.specs.Mappings.{mapped_with}
use Rattle.allocator_state.specs.declared.Counters.{Counters}
use Rattle.allocator_state.specs.Counters.{with_arg_c, with_temp_lb, with_perm_lb, with_arity, with_in_tail_position, with_events_seen, with_freed_registers, with_open_branches, with_in_use}
use Rattle.allocation.specs.Allocation.{without_front}
use Rattle.valid_stays.specs.Fits.{Kinds, Placed, Counter, Counts, RecordFits, Records, Named, Mappings, Queue, Branches, Freed, Valid}
use Rattle.valid_stays.proofs.RecordsFit.{record_fits, records_put, placed_at-fits}
use Rattle.valid_stays.proofs.TablesFit.{inserted_usable, mapped_with_lem, queue_front, freed_more, freed_fewer}

module _ (k : Kinds) {c : Counters} {records mappings queue freed rows sets : List ℕ} (h : Valid k c records mappings queue freed rows sets) where
  -- other records
  pub with_records_lem : {after : List ℕ} → Records k after → Valid k c after mappings queue freed rows sets
  with_records_lem r =
      record { counted = h.counted; recorded = r; mapped = h.mapped; queued = h.queued; given = h.given; opened = h.opened }

  pub put_valid :
      (v : ℕ) → v < k.count → (variable : VariableRecord) → RecordFits k v variable
      → Valid k c (record_put records v variable) mappings queue freed rows sets
  put_valid v known variable fits = with_records_lem (records_put k h.recorded v known variable fits)

  pub placed_valid :
      (v : ℕ) → v < k.count → (place : ℕ) → place ≤ registers
      → Valid k c (record_put records v (placed_at (record_at records v) place)) mappings queue freed rows sets
  placed_valid v known place small =
      put_valid v known (placed_at (record_at records v) place)
      (placed_at-fits k v (record_at records v) place (record_fits k h.recorded v known) small)

  -- other mappings
  pub with_mappings : {after : List ℕ} → Mappings k after → Valid k c records after queue freed rows sets
  with_mappings m =
      record { counted = h.counted; recorded = h.recorded; mapped = m; queued = h.queued; given = h.given; opened = h.opened }

  pub mapped_valid : (r v : ℕ) → Named k v → Valid k c records (mapped_with mappings r v) queue freed rows sets
  mapped_valid r v name = with_mappings (mapped_with_lem k h.mapped r v name)

  -- other branches
  pub with_branches :
      {rows_after sets_after : List ℕ} → Branches k c.open_branches rows_after sets_after
      → Valid k c records mappings queue freed rows_after sets_after
  with_branches b =
      record { counted = h.counted; recorded = h.recorded; mapped = h.mapped; queued = h.queued; given = h.given; opened = b }

  -- other counters
  pub with_counts :
      (after : Counters) → Counts k after → Queue k after.first_freed_slot after.freed_slots queue
      → Freed after.freed_registers freed → Branches k after.open_branches rows sets
      → Valid k after records mappings queue freed rows sets
  with_counts after n q f b =
      record { counted = n; recorded = h.recorded; mapped = h.mapped; queued = q; given = f; opened = b }

  pub argument_valid : (m : ℕ) → Counter m → Valid k (with_arg_c m c) records mappings queue freed rows sets
  argument_valid m fits =
      let n = h.counted in
      with_counts (with_arg_c m c)
      (record {
        argument = fits;
        search_start = n.search_start;
        slot = n.slot;
        arity = n.arity;
        tail = n.tail;
        records = n.records;
        seen = n.seen;
        freed = n.freed;
        front = n.front;
        queued = n.queued;
        opened = n.opened;
        usable = n.usable;
      })
      h.queued h.given h.opened

  pub search_valid : (m : ℕ) → Counter m → Valid k (with_temp_lb m c) records mappings queue freed rows sets
  search_valid m fits =
      let n = h.counted in
      with_counts (with_temp_lb m c)
      (record {
        argument = n.argument;
        search_start = fits;
        slot = n.slot;
        arity = n.arity;
        tail = n.tail;
        records = n.records;
        seen = n.seen;
        freed = n.freed;
        front = n.front;
        queued = n.queued;
        opened = n.opened;
        usable = n.usable;
      })
      h.queued h.given h.opened

  pub slot_valid : (m : ℕ) → Counter m → Valid k (with_perm_lb m c) records mappings queue freed rows sets
  slot_valid m fits =
      let n = h.counted in
      with_counts (with_perm_lb m c)
      (record {
        argument = n.argument;
        search_start = n.search_start;
        slot = fits;
        arity = n.arity;
        tail = n.tail;
        records = n.records;
        seen = n.seen;
        freed = n.freed;
        front = n.front;
        queued = n.queued;
        opened = n.opened;
        usable = n.usable;
      })
      h.queued h.given h.opened

  pub arity_valid : (m : ℕ) → m ≤ registers → Valid k (with_arity m c) records mappings queue freed rows sets
  arity_valid m fits =
      let n = h.counted in
      with_counts (with_arity m c)
      (record {
        argument = n.argument;
        search_start = n.search_start;
        slot = n.slot;
        arity = fits;
        tail = n.tail;
        records = n.records;
        seen = n.seen;
        freed = n.freed;
        front = n.front;
        queued = n.queued;
        opened = n.opened;
        usable = n.usable;
      })
      h.queued h.given h.opened

  pub tail_valid : (m : ℕ) → m ≤ 1 → Valid k (with_in_tail_position m c) records mappings queue freed rows sets
  tail_valid m fits =
      let n = h.counted in
      with_counts (with_in_tail_position m c)
      (record {
        argument = n.argument;
        search_start = n.search_start;
        slot = n.slot;
        arity = n.arity;
        tail = fits;
        records = n.records;
        seen = n.seen;
        freed = n.freed;
        front = n.front;
        queued = n.queued;
        opened = n.opened;
        usable = n.usable;
      })
      h.queued h.given h.opened

  pub seen_valid : Valid k (with_events_seen 1 c) records mappings queue freed rows sets
  seen_valid =
      let n = h.counted in
      with_counts (with_events_seen 1 c)
      (record {
        argument = n.argument;
        search_start = n.search_start;
        slot = n.slot;
        arity = n.arity;
        tail = n.tail;
        records = n.records;
        seen = omega arith;
        freed = n.freed;
        front = n.front;
        queued = n.queued;
        opened = n.opened;
        usable = n.usable;
      })
      h.queued h.given h.opened

  pub in_use_valid : (m : ℕ) → has m 0 ≡ false → Valid k (with_in_use m c) records mappings queue freed rows sets
  in_use_valid m fits =
      let n = h.counted in
      with_counts (with_in_use m c)
      (record {
        argument = n.argument;
        search_start = n.search_start;
        slot = n.slot;
        arity = n.arity;
        tail = n.tail;
        records = n.records;
        seen = n.seen;
        freed = n.freed;
        front = n.front;
        queued = n.queued;
        opened = n.opened;
        usable = fits;
      })
      h.queued h.given h.opened

  pub fewer_valid : (left : ℕ) → left ≤ c.freed_registers → Valid k (with_freed_registers left c) records mappings queue freed rows sets
  fewer_valid left less =
      let n = h.counted in
      with_counts (with_freed_registers left c)
      (record {
        argument = n.argument;
        search_start = n.search_start;
        slot = n.slot;
        arity = n.arity;
        tail = n.tail;
        records = n.records;
        seen = n.seen;
        freed = omega (arith, n.freed);
        front = n.front;
        queued = n.queued;
        opened = n.opened;
        usable = n.usable;
      })
      h.queued (freed_fewer h.given left less) h.opened

  pub front_valid : (dropped : ℕ) → dropped ≤ c.freed_slots → Valid k (without_front c dropped) records mappings queue freed rows sets
  front_valid dropped less =
      let n = h.counted in
      with_counts (without_front c dropped)
      (record {
        argument = n.argument;
        search_start = n.search_start;
        slot = n.slot;
        arity = n.arity;
        tail = n.tail;
        records = n.records;
        seen = n.seen;
        freed = n.freed;
        front = omega arith;
        queued = omega (arith, n.queued);
        opened = n.opened;
        usable = n.usable;
      })
      (queue_front k h.queued dropped less n.queued) h.given h.opened

  pub used_valid : (r : ℕ) → 1 ≤ r → Valid k (with_in_use (inserted c.in_use r) c) records mappings queue freed rows sets
  used_valid r some = in_use_valid (inserted c.in_use r) (inserted_usable c.in_use r h.counted.usable some)

  -- another stack of branches
  pub levels_valid :
      (m : ℕ) → m ≤ open_branches → {rows_after sets_after : List ℕ} → Branches k m rows_after sets_after
      → Valid k (with_open_branches m c) records mappings queue freed rows_after sets_after
  levels_valid m small b =
      let n = h.counted in
      record {
        counted = record {
          argument = n.argument;
          search_start = n.search_start;
          slot = n.slot;
          arity = n.arity;
          tail = n.tail;
          records = n.records;
          seen = n.seen;
          freed = n.freed;
          front = n.front;
          queued = n.queued;
          opened = small;
          usable = n.usable;
        };
        recorded = h.recorded;
        mapped = h.mapped;
        queued = h.queued;
        given = h.given;
        opened = b;
      }

  -- one freed register more
  pub more_valid :
      (r : ℕ) → Placed r → c.freed_registers < freed_registers
      → Valid k (with_freed_registers (c.freed_registers + 1) c) records mappings queue (set freed c.freed_registers r) rows sets
  more_valid r placed room =
      let n = h.counted in
      record {
        counted = record {
          argument = n.argument;
          search_start = n.search_start;
          slot = n.slot;
          arity = n.arity;
          tail = n.tail;
          records = n.records;
          seen = n.seen;
          freed = omega arith;
          front = n.front;
          queued = n.queued;
          opened = n.opened;
          usable = n.usable;
        };
        recorded = h.recorded;
        mapped = h.mapped;
        queued = h.queued;
        given = freed_more h.given r placed room;
        opened = h.opened;
      }

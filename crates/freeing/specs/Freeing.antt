-- A variable is counted or freed.
use Rattle.std.specs.Prelude.{ℕ, ◌+◌, List, leb, ltb}
use Rattle.std.specs.Prelude.{if◌then◌else◌}
use Rattle.sizes.specs.Sizes.{freed_slots}
use Rattle.refusals.specs.Refusals.{accepted, refused_full}
use Rattle.variable_records.specs.declared.PermVarAllocation.TheVariants.{Pending}
use Rattle.variable_records.specs.declared.VarAlloc.{VarAlloc}
use Rattle.variable_records.specs.declared.VarAlloc.TheVariants.{Temp, Perm}
use Rattle.variable_records.specs.declared.VariableRecord.{VariableRecord}
use Rattle.variable_records.specs.Records.{allocated}
use Rattle.variable_records.specs.Rows.{record_at, record_put}
use Rattle.perm_free_list.specs.PermFreeList.{entry_put}
use Rattle.allocator_state.specs.declared.Counters.{Counters}
use Rattle.allocator_state.specs.Counters.{with_freed_slots}
use Rattle.freeing.specs.declared.Released.{Released}

-- the queue, and the counters or the refusal
pub record Release : Type 0 where
  pub list : List ℕ
  pub released : Released

abbrev pub release : List ℕ → Released → Release
release list released = record { list = list; released = released }

abbrev pub kept : Counters → Released
kept c = record { counters = c; refusal = accepted }

-- an entry joins the queue of freed slots, unless that is full: rule 4.7
unfoldable pub pushed_free : Counters → List ℕ → ℕ → ℕ → Release
pushed_free c list chunk v =
    if leb freed_slots c.freed_slots then release list (record { counters = c; refusal = refused_full })
    else
    release
    (entry_put list c.first_freed_slot c.freed_slots (record { chunk = chunk; variable = v }))
    (kept (with_freed_slots (c.freed_slots + 1) c))

-- the records and the queue, and the counters or the refusal
pub record ReleaseOf : Type 0 where
  pub records : List ℕ
  pub list : List ℕ
  pub released : Released

abbrev pub release_of : List ℕ → List ℕ → Released → ReleaseOf
release_of records list released = record { records = records; list = list; released = released }

abbrev pub with_records : List ℕ → Release → ReleaseOf
with_records records r = release_of records r.list r.released

-- rule 10.5: a permanent variable becomes Pending and joins the queue; a temporary is left alone
abbrev pub freed_as : VarAlloc → Counters → List ℕ → List ℕ → ℕ → ℕ → ReleaseOf
freed_as (Temp context register safety to_perm) c records list chunk v = release_of records list (kept c)
freed_as (Perm slot allocation) c records list chunk v =
    with_records (record_put records v (allocated (record_at records v) (Perm slot Pending))) (pushed_free c list chunk v)

unfoldable pub freed : Counters → List ℕ → List ℕ → ℕ → ℕ → ReleaseOf
freed c records list chunk v = freed_as (record_at records v).allocation c records list chunk v

abbrev pub running_at : VariableRecord → ℕ → VariableRecord
running_at variable n =
    record {
      allocation = variable.allocation;
      num_occurrences = variable.num_occurrences;
      running_count = n;
    }

-- rule 12.10: a running count that is below the occurrences grows by one; otherwise the variable is freed
unfoldable pub counted_or_freed : Counters → List ℕ → List ℕ → ℕ → ℕ → ReleaseOf
counted_or_freed c records list chunk v =
    if ltb (record_at records v).running_count (record_at records v).num_occurrences then
    release_of (record_put records v (running_at (record_at records v) ((record_at records v).running_count + 1))) list (kept c)
    else freed c records list chunk v

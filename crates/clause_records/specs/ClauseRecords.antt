-- The records of a clause, as its lines give them, and their restricting sets.
use Rattle.std.specs.Prelude.{ℕ, ◌+◌, ◌%◌, List, map, leb, set, Option, Some, None}
use Rattle.std.specs.Prelude.{if◌then◌else◌}
use Rattle.sizes.specs.Sizes.{variables}
use Rattle.refusals.specs.Refusals.{refused_full}
use Rattle.bit_set.specs.BitSet.{empty_set}
use Rattle.forms.specs.declared.GenContext.{GenContext}
use Rattle.forms.specs.Forms.{chunk_num}
use Rattle.variable_records.specs.declared.VarSafetyStatus.TheVariants.{Needed}
use Rattle.variable_records.specs.declared.PermVarAllocation.TheVariants.{Pending}
use Rattle.variable_records.specs.declared.VarAlloc.{VarAlloc}
use Rattle.variable_records.specs.declared.VarAlloc.TheVariants.{Temp, Perm}
use Rattle.variable_records.specs.declared.VariableRecord.{VariableRecord}
use Rattle.variable_records.specs.Rows.{unset, record_at, record_put}
use Rattle.temp_var_data.specs.Uses.{use_sets_with, use_counts_with}
use Rattle.register_sets.specs.RegisterSets.{set_put}
use Rattle.restricting_sets.specs.declared.VariableSets.{VariableSets}
use Rattle.restricting_sets.specs.Restricting.{sets, below, sets_anew, no_use_of, conflict_at}
use Rattle.branches.specs.Lists.{each}
use Rattle.allocator_state.specs.declared.Counters.{Counters}
use Rattle.allocator_state.specs.Counters.{with_records}
use Rattle.freeing.specs.declared.Released.{Released}
use Rattle.freeing.specs.Freeing.{kept}

-- ---- A record more

-- the tables in which a record has its row
pub record Rows : Type 0 where
  pub records : List ℕ
  pub sets : VariableSets

abbrev pub rows : List ℕ → VariableSets → Rows
rows records sets = record { records = records; sets = sets }

-- a record with no uses and empty sets; a number of no variable is taken modulo the number of variables
unfoldable pub rows_put : Rows → ℕ → VariableRecord → Rows
rows_put t v variable =
    rows
    (record_put t.records v variable)
    (sets
    t.sets.use_sets
    (set t.sets.use_counts (v % variables) 0)
    (set_put t.sets.no_use v empty_set)
    (set_put t.sets.conflict v empty_set))

-- a record of which nothing has been marked
abbrev pub fresh : VarAlloc → ℕ → VariableRecord
fresh allocation occurrences =
    record { allocation = allocation; num_occurrences = occurrences; running_count = 0 }

abbrev pub refused : Counters → Released
refused c = record { counters = c; refusal = refused_full }

abbrev pub counted : Counters → Released
counted c = kept (with_records (c.records + 1) c)

-- the tables afterwards, and the counters or the refusal
pub record Recording : Type 0 where
  pub tables : Rows
  pub released : Released

abbrev pub recording : Rows → Released → Recording
recording t released = record { tables = t; released = released }

-- rules 4.7 and 6.4: a permanent variable, unless the record is the 65th
unfoldable pub perm_recorded : Counters → Rows → ℕ → Recording
perm_recorded c t occurrences =
    if leb variables c.records then recording t (refused c)
    else recording (rows_put t c.records (fresh (Perm 0 Pending) occurrences)) (counted c)

-- ---- Its uses

abbrev pub with_use : ℕ → VariableSets → ℕ → VariableSets
with_use v s code =
    sets
    (use_sets_with s.use_sets s.use_counts v code)
    (use_counts_with s.use_sets s.use_counts v code)
    s.no_use
    s.conflict

-- rules 5.5 and 7.1: the uses of a list, one after the other
unfoldable pub uses_given : VariableSets → ℕ → List ℕ → VariableSets
uses_given s v codes = each (with_use v) s codes

abbrev pub fresh_temp : GenContext → ℕ → VariableRecord
fresh_temp context occurrences = fresh (Temp context 0 Needed unset) occurrences

abbrev pub with_uses : Rows → ℕ → List ℕ → Rows
with_uses t v codes = rows t.records (uses_given t.sets v codes)

-- rules 4.7 and 6.3: a temporary, unless the record is the 65th
unfoldable pub temp_recorded : Counters → Rows → GenContext → ℕ → List ℕ → Recording
temp_recorded c t context occurrences codes =
    if leb variables c.records then recording t (refused c)
    else recording (with_uses (rows_put t c.records (fresh_temp context occurrences)) c.records codes) (counted c)

-- ---- `sets`

abbrev pub chunk_of_alloc : VarAlloc → Option ℕ
chunk_of_alloc (Temp context register safety to_perm) = Some (chunk_num context)
chunk_of_alloc (Perm slot allocation) = None

-- the chunk of a temporary's context; none for a permanent variable, and none past the last record
unfoldable pub chunk_at : Counters → List ℕ → ℕ → Option ℕ
chunk_at c records v = if leb c.records v then None else chunk_of_alloc (record_at records v).allocation

unfoldable pub chunks_of : Counters → List ℕ → List (Option ℕ)
chunks_of c records = map (chunk_at c records) (below variables)

-- rules 7.2 to 7.4: the no_use_lem and conflict sets of all temporaries, and nothing else
unfoldable pub populated : Counters → List ℕ → VariableSets → VariableSets
populated c records s =
    sets
    s.use_sets
    s.use_counts
    (sets_anew (no_use_of s.use_sets s.use_counts (chunks_of c records)) s.no_use)
    (sets_anew (conflict_at s.use_sets s.use_counts (chunks_of c records)) s.conflict)

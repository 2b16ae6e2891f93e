-- Every record stays of its kind, in a good place, where a record joins them: its place is 0, its uses are of good registers.
use Rattle.std.specs.Prelude.{ℕ, ◌%◌, ◌<◌, Bool, List, leb}
use Rattle.std.proofs.Math.Bool.{true, false}
use Rattle.std.proofs.Common.{leb-false}
use Rattle.notation.specs.ChoiceLaws.{either, by_test}
use Rattle.sizes.specs.Sizes.{variables}
use Rattle.forms.specs.declared.GenContext.{GenContext}
use Rattle.variable_records.specs.declared.PermVarAllocation.TheVariants.{Pending}
use Rattle.variable_records.specs.declared.VarAlloc.TheVariants.{Perm}
use Rattle.variable_records.specs.declared.VariableRecord.{VariableRecord}
use Rattle.temp_var_data.specs.Uses.{register_of, takes_use, use_sets_with}
use Rattle.restricting_sets.specs.declared.VariableSets.{VariableSets}
use Rattle.allocator_state.specs.declared.Counters.{Counters}
use Rattle.clause_records.specs.ClauseRecords.{Rows, rows_put, fresh, Recording, perm_recorded}
use Rattle.clause_records.specs.ClauseRecords.{with_use, uses_given, fresh_temp, temp_recorded, populated}
use Rattle.invariants.specs.Lists.{all_set, each_keeps}
use Rattle.invariants.specs.Kept.{Wanted, Holds, Kept, kept_put, none_good}
use Rattle.invariants.specs.OfEvacuation.{GoodUses}

module _ (k : Wanted) where
  -- ---- The record

  -- it may be of any kind
  abbrev pub AnyKindNext : Counters → Type 0
  AnyKindNext c = c.records < variables → (kind : Bool) → k.Kind (c.records % variables) kind

  module _ (c : Counters) (t : Rows) (every : Kept k t.records) (new : AnyKindNext c) where
    rows_put_keeps :
        (variable : VariableRecord) → Holds k (c.records % variables) variable.allocation
        → Kept k (rows_put t c.records variable).records
    unfolding rows_put
    rows_put_keeps variable h = kept_put k every c.records variable h

    pub perm_recorded_keeps : (occurrences : ℕ) → Kept k (perm_recorded c t occurrences).tables.records
    unfolding perm_recorded
    perm_recorded_keeps occurrences =
        by_test (λ (r : Recording). Kept k r.tables.records) (leb variables c.records) (λ e. every)
        (λ e. rows_put_keeps (fresh (Perm 0 Pending) occurrences) (new (leb-false variables c.records e) false, none_good k))

    pub temp_recorded_keeps :
        (context : GenContext) (occurrences : ℕ) (codes : List ℕ)
        → Kept k (temp_recorded c t context occurrences codes).tables.records
    unfolding temp_recorded
    temp_recorded_keeps context occurrences codes =
        by_test (λ (r : Recording). Kept k r.tables.records) (leb variables c.records) (λ e. every)
        (λ e. rows_put_keeps (fresh_temp context occurrences) (new (leb-false variables c.records e) true, none_good k))

  -- ---- Its uses

  use_good :
      (v : ℕ) (s : VariableSets) (code : ℕ) → k.Good (register_of code) → GoodUses k s.use_sets
      → GoodUses k (with_use v s code).use_sets
  unfolding use_sets_with
  use_good v s code good all =
      either (GoodUses k) (takes_use s.use_sets s.use_counts v code) (all_set (λ code. k.Good (register_of code)) s.use_sets _ code all good) all

  uses_given_good :
      (v : ℕ) (s : VariableSets) (codes : List ℕ) → GoodUses k codes → GoodUses k s.use_sets
      → GoodUses k (uses_given s v codes).use_sets
  unfolding uses_given
  uses_given_good v s codes good all =
      each_keeps (λ (s : VariableSets). GoodUses k s.use_sets) (λ code. k.Good (register_of code)) (with_use v) (use_good v) s codes good all

  pub perm_recorded_good :
      (c : Counters) (t : Rows) (occurrences : ℕ) → GoodUses k t.sets.use_sets
      → GoodUses k (perm_recorded c t occurrences).tables.sets.use_sets
  unfolding perm_recorded rows_put
  perm_recorded_good c t occurrences all =
      either (λ (r : Recording). GoodUses k r.tables.sets.use_sets) (leb variables c.records) all all

  pub temp_recorded_good :
      (c : Counters) (t : Rows) (context : GenContext) (occurrences : ℕ) (codes : List ℕ) → GoodUses k codes → GoodUses k t.sets.use_sets
      → GoodUses k (temp_recorded c t context occurrences codes).tables.sets.use_sets
  unfolding temp_recorded rows_put
  temp_recorded_good c t context occurrences codes good all =
      either (λ (r : Recording). GoodUses k r.tables.sets.use_sets) (leb variables c.records) all
      (uses_given_good c.records (rows_put t c.records (fresh_temp context occurrences)).sets codes good all)

  -- ---- `sets`

  pub populated_good :
      (c : Counters) (records : List ℕ) (s : VariableSets) → GoodUses k s.use_sets → GoodUses k (populated c records s).use_sets
  unfolding populated
  populated_good c records s all = all

-- The rows of the records fit after a record was put there.
use Rattle.std.specs.Prelude.{ℕ, ◌*◌, ◌%◌, ◌≤◌, ◌<◌, ◌≡◌, ◌≢◌, List, leb, length, replicate}
use Rattle.std.proofs.Math.Path.{refl, sym, ap, subst}
use Rattle.std.proofs.Common.{◌∙◌, arith, leb-true, le-leb, eqb-true}
use Rattle.std.proofs.Math.Bool.{Bool, true, false}
use Rattle.std.proofs.Math.Dec.{eqb}
use Rattle.std.proofs.lemmas.Bool.{eqb-false}
use Rattle.notation.specs.ChoiceLaws.{both_true, either, by_test}
use Rattle.notation.specs.ListLaws.{cells_put-same, cells_put-other}
use Rattle.sizes.specs.Sizes.{variables, registers, chunks, counts, is_argument, is_chunk, is_count}
use Rattle.forms.specs.Forms.{chunk_num}
use Rattle.forms.specs.declared.GenContext.{GenContext}
use Rattle.forms.specs.declared.GenContext.TheVariants.{Head, Mid, Last}
use Rattle.variable_records.specs.declared.VarSafetyStatus.{VarSafetyStatus}
use Rattle.variable_records.specs.declared.VarSafetyStatus.TheVariants.{Needed, LocallyUnneeded, GloballyUnneeded}
use Rattle.variable_records.specs.declared.PermVarAllocation.TheVariants.{Done, Pending}
use Rattle.variable_records.specs.declared.VarAlloc.{VarAlloc}
use Rattle.variable_records.specs.declared.VarAlloc.TheVariants.{Temp, Perm}
use Rattle.variable_records.specs.declared.VariableRecord.{VariableRecord}
use Rattle.variable_records.specs.declared.Row.{Row}
use Rattle.variable_records.specs.Records.{placed_alloc, placed_at}
use Rattle.variable_records.specs.Rows.{safety_row_of, context_code, context_of, allocation_of, record_of, row_of, row_cells, filled_cells, row_start, row_at, row_put, record_at, record_put, temporary, is_temporary}
use Rattle.variable_records.specs.TableLaws.{record_put-same, record_put-other, record_put-length}
use Rattle.valid_states.specs.ValidStates.{names_none_or, row_fits}
use Rattle.valid_stays.specs.Fits.{Kinds, AllocFits, RecordFits, Records}

-- ---- The row that is put, and the others

abbrev numbers_of : VariableRecord → List ℕ
numbers_of variable = row_put (replicate filled_cells 0) 0 (row_of variable)

abbrev row_from : List ℕ → Row
row_from numbers = row_at numbers 0

pub row_put-same :
    (records : List ℕ) (v : ℕ) (variable : VariableRecord) → length records ≡ variables * row_cells
    → row_at (record_put records v variable) v ≡ row_of variable
unfolding record_put
row_put-same records v variable size =
    ap row_from (cells_put-same records (row_start v) 0 (numbers_of variable) (omega arith))

pub row_put-other :
    (records : List ℕ) (v w : ℕ) (variable : VariableRecord) → v < variables → w < variables → v ≢ w
    → row_at (record_put records v variable) w ≡ row_at records w
unfolding record_put
row_put-other records v w variable hv hw differ =
    let apart : v % variables ≢ w % variables = omega arith in
    ap row_from (cells_put-other row_cells _ _ apart records (numbers_of variable) (omega arith) 0 filled_cells (omega arith))

-- ---- A row that fits holds a record that does

pub record RowParts (count : ℕ) (row : Row) : Type 0 where
  pub chunk : row.chunk ≤ chunks
  pub place : row.place ≤ registers
  pub names : names_none_or count row.to_perm_var_num ≡ true
  pub occurrences : row.num_occurrences ≤ counts
  pub running : row.running_count ≤ counts

row_parts : (count : ℕ) (row : Row) → row_fits count row ≡ true → RowParts count row
row_parts count row e =
    let a = both_true (leb row.kind 1) _ e in
    let b = both_true (leb row.context 2) _ a.1 in
    let c = both_true (is_chunk row.chunk) _ b.1 in
    let d = both_true (is_argument row.place) _ c.1 in
    let f = both_true (leb row.pending 1) _ d.1 in
    let g = both_true (leb row.safety.code 2) _ f.1 in
    let h = both_true (leb row.deep.code 2) _ g.1 in
    let i = both_true (names_none_or count row.to_perm_var_num) _ h.1 in
    let j = both_true (is_count row.num_occurrences) _ i.1 in
    record {
      chunk = leb-true _ _ c.0;
      place = leb-true _ _ d.0;
      names = i.0;
      occurrences = leb-true _ _ j.0;
      running = leb-true _ _ j.1;
    }

chunk_fits : (code chunk : ℕ) → chunk ≤ chunks → chunk_num (context_of code chunk) ≤ chunks
unfolding context_of
chunk_fits code chunk h =
    let Small : GenContext → Type 0 = λ context. chunk_num context ≤ chunks in
    either Small (eqb code 0) (omega arith) (either Small (eqb code 1) h h)

context_small : (context : GenContext) → context_code context ≤ 2
context_small Head = omega arith
context_small (Mid chunk) = omega arith
context_small (Last chunk) = omega arith

safety_small : (safety : VarSafetyStatus) → (safety_row_of safety).code ≤ 2
safety_small Needed = omega arith
safety_small (LocallyUnneeded branch) = omega arith
safety_small GloballyUnneeded = omega arith

module _ (k : Kinds) where
  alloc_of_row :
      (w : ℕ) (row : Row) → RowParts k.count row → temporary (allocation_of row) ≡ k.temporary w
      → AllocFits k w (allocation_of row)
  unfolding allocation_of temporary
  alloc_of_row w row parts =
      by_test (λ (a : VarAlloc). temporary a ≡ k.temporary w → AllocFits k w a) (eqb row.kind 0)
      (λ e h. (sym h, chunk_fits row.context row.chunk parts.chunk, parts.place, parts.names))
      (λ e h. (sym h, parts.place))

  record_of-row :
      (w : ℕ) (row : Row) → row_fits k.count row ≡ true → temporary (allocation_of row) ≡ k.temporary w
      → RecordFits k w (record_of row)
  unfolding record_of
  record_of-row w row fits kind =
      let parts = row_parts k.count row fits in
      record { alloc = alloc_of_row w row parts kind; occurrences = parts.occurrences; running = parts.running }

  -- ---- And a record that fits makes a row that does

  row_of_alloc :
      (w : ℕ) (allocation : VarAlloc) (occurrences running : ℕ) → AllocFits k w allocation → occurrences ≤ counts → running ≤ counts
      → row_fits k.count (row_of (record { allocation = allocation; num_occurrences = occurrences; running_count = running })) ≡ true
  row_of_alloc w (Temp context register safety to_perm) occurrences running h ho hr =
      simp (
        le-leb _ _ (context_small context),
        le-leb _ _ h.1,
        le-leb _ _ h.2,
        le-leb _ _ (safety_small safety),
        h.3,
        le-leb _ _ ho,
        le-leb _ _ hr,
      )
  row_of_alloc w (Perm slot Pending) occurrences running h ho hr =
      simp (le-leb _ _ h.1, le-leb _ _ ho, le-leb _ _ hr)
  row_of_alloc w (Perm slot (Done shallow deep)) occurrences running h ho hr =
      simp (le-leb _ _ h.1, le-leb _ _ (safety_small shallow), le-leb _ _ (safety_small deep), le-leb _ _ ho, le-leb _ _ hr)

  pub row_of_record : (w : ℕ) (variable : VariableRecord) → RecordFits k w variable → row_fits k.count (row_of variable) ≡ true
  row_of_record w variable h =
      row_of_alloc w variable.allocation variable.num_occurrences variable.running_count h.alloc h.occurrences h.running

  kind_of_alloc : (w : ℕ) (allocation : VarAlloc) → AllocFits k w allocation → temporary allocation ≡ k.temporary w
  unfolding temporary
  kind_of_alloc w (Temp context register safety to_perm) h = sym h.0
  kind_of_alloc w (Perm slot allocation) h = sym h.0

  -- ---- The table

  module _ {records : List ℕ} (every : Records k records) (v : ℕ) (known : v < k.count) where
    pub record_fits : RecordFits k v (record_at records v)
    unfolding record_at is_temporary record_of
    record_fits = record_of-row v (row_at records v) (every.row v known) (every.kind v known)

    module _ (variable : VariableRecord) (h : RecordFits k v variable) where
      put_row_lem : (w : ℕ) → w < k.count → row_fits k.count (row_at (record_put records v variable) w) ≡ true
      put_row_lem w hw =
          elim (eqb v w) as (λ t. eqb v w ≡ t → row_fits k.count (row_at (record_put records v variable) w) ≡ true) [
            | true ↦ λ e.
                subst (λ (w : ℕ). row_fits k.count (row_at (record_put records v variable) w) ≡ true) (eqb-true v w e)
                (subst (λ (row : Row). row_fits k.count row ≡ true) (sym (row_put-same records v variable every.full))
                (row_of_record v variable h))
            | false ↦ λ e.
                subst (λ (row : Row). row_fits k.count row ≡ true)
                (sym (row_put-other records v w variable (omega (arith, k.small)) (omega (arith, k.small)) (eqb-false v w e)))
                (every.row w hw)
          ]
          refl

      put_kind : (w : ℕ) → w < k.count → is_temporary (record_put records v variable) w ≡ k.temporary w
      unfolding is_temporary
      put_kind w hw =
          let kind_of : VariableRecord → Bool = λ variable. temporary variable.allocation in
          elim (eqb v w) as (λ t. eqb v w ≡ t → temporary (record_at (record_put records v variable) w).allocation ≡ k.temporary w) [
            | true ↦ λ e.
                subst (λ (w : ℕ). temporary (record_at (record_put records v variable) w).allocation ≡ k.temporary w) (eqb-true v w e)
                (ap kind_of (record_put-same records v variable every.full) ∙ kind_of_alloc v variable.allocation h.alloc)
            | false ↦ λ e.
                ap kind_of (record_put-other records v w variable (omega (arith, k.small)) (omega (arith, k.small)) (eqb-false v w e))
                ∙ every.kind w hw
          ]
          refl

      pub records_put : Records k (record_put records v variable)
      records_put = record { full = record_put-length records v variable ∙ every.full; row = put_row_lem; kind = put_kind }

  -- another place
  placed_fits :
      (w : ℕ) (allocation : VarAlloc) (place : ℕ) → AllocFits k w allocation → place ≤ registers
      → AllocFits k w (placed_alloc allocation place)
  placed_fits w (Temp context register safety to_perm) place h small = (h.0, h.1, small, h.3)
  placed_fits w (Perm slot allocation) place h small = (h.0, small)

  pub placed_at-fits :
      (w : ℕ) (variable : VariableRecord) (place : ℕ) → RecordFits k w variable → place ≤ registers
      → RecordFits k w (placed_at variable place)
  placed_at-fits w variable place h small =
      record { alloc = placed_fits w variable.allocation place h.alloc small; occurrences = h.occurrences; running = h.running }

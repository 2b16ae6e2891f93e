-- Laws of a table of records in which every variable keeps its counts and its kind, whatever becomes of its place.
use Rattle.std.specs.Prelude.{ℕ, ◌*◌, ◌%◌, ◌<◌, ◌≡◌, refl, true, false, List, eqb, length}
use Rattle.std.proofs.Common.{ap, sym, ◌∙◌, arith, eqb-true}
use Rattle.std.proofs.lemmas.Bool.{eqb-false}
use Rattle.sizes.specs.Sizes.{variables}
use Rattle.variable_records.specs.declared.VariableRecord.{VariableRecord}
use Rattle.variable_records.specs.declared.VarAlloc.{VarAlloc}
use Rattle.variable_records.specs.declared.VarAlloc.TheVariants.{Temp, Perm}
use Rattle.variable_records.specs.Records.{allocated, placed_alloc, placed_at}
use Rattle.variable_records.specs.Rows.{row_cells, record_at, record_put, temporary, is_temporary}
use Rattle.variable_records.specs.TableLaws.{record_put-same, record_put-other, record_put-length}

-- ---- A number of no variable is taken modulo the number of variables

module _ (records : List ℕ) (w : ℕ) where
  twice : w % variables % variables ≡ w % variables
  twice = omega arith

  at_modulo : record_at records (w % variables) ≡ record_at records w
  unfolding record_at
  at_modulo = rw twice

  put_modulo : (variable : VariableRecord) → record_put records (w % variables) variable ≡ record_put records w variable
  unfolding record_put
  put_modulo variable = rw twice

-- ---- Counts and kinds

-- a table of its size, in which every variable has the counts that it had, and is temporary or permanent as it was
pub record CountsKept (before after : List ℕ) : Type 0 where
  pub size : length after ≡ variables * row_cells
  pub running : (v : ℕ) → v < variables → (record_at after v).running_count ≡ (record_at before v).running_count
  pub occurrences : (v : ℕ) → v < variables → (record_at after v).num_occurrences ≡ (record_at before v).num_occurrences
  pub kind : (v : ℕ) → v < variables → is_temporary after v ≡ is_temporary before v

pub counts_same : (records : List ℕ) → length records ≡ variables * row_cells → CountsKept records records
counts_same records size = record { size = size; running = λ v h. refl; occurrences = λ v h. refl; kind = λ v h. refl }

-- one record put anew: each is the one put, or as it was
module _ (records : List ℕ) (size : length records ≡ variables * row_cells) (w : ℕ) (variable : VariableRecord) where
  pub put_cases :
      (P : VariableRecord → VariableRecord → Type 0) → P (record_at records w) variable → ((x : VariableRecord) → P x x)
      → (v : ℕ) → v < variables → P (record_at records v) (record_at (record_put records w variable) v)
  put_cases P here elsewhere v inside =
      elim (eqb (w % variables) v) as (λ t. eqb (w % variables) v ≡ t → P (record_at records v) (record_at (record_put records w variable) v)) [
        | true ↦ λ t. (let same = eqb-true (w % variables) v t in
            let old : record_at records v ≡ record_at records w = ap (record_at records) (sym same) ∙ at_modulo records w in
            let new : record_at (record_put records w variable) v ≡ variable =
            ap (record_at (record_put records w variable)) (sym same)
            ∙ at_modulo (record_put records w variable) w
            ∙ record_put-same records w variable size in
            rw (old, new) here)
        | false ↦ λ t. (let apart = eqb-false (w % variables) v t in
            let new : record_at (record_put records w variable) v ≡ record_at records v =
            ap (λ (table : List ℕ). record_at table v) (sym (put_modulo records w variable))
            ∙ record_put-other records (w % variables) v variable (omega arith) inside apart in
            rw new (elsewhere (record_at records v)))
      ]
      refl

  put_keeps :
      {X : Type 0} (read : VariableRecord → X) → read variable ≡ read (record_at records w)
      → (v : ℕ) → v < variables → read (record_at (record_put records w variable) v) ≡ read (record_at records v)
  put_keeps read same = put_cases (λ old new. read new ≡ read old) same (λ x. refl)

pub counts-put :
    {before after : List ℕ} → CountsKept before after → (w : ℕ) (variable : VariableRecord)
    → variable.running_count ≡ (record_at after w).running_count
    → variable.num_occurrences ≡ (record_at after w).num_occurrences
    → temporary variable.allocation ≡ is_temporary after w
    → CountsKept before (record_put after w variable)
unfolding is_temporary
counts-put {before} {after} kept w variable running occurrences kind =
    record {
      size = record_put-length after w variable ∙ kept.size;
      running = λ v h. put_keeps after kept.size w variable (λ x. x.running_count) running v h ∙ kept.running v h;
      occurrences = λ v h. put_keeps after kept.size w variable (λ x. x.num_occurrences) occurrences v h ∙ kept.occurrences v h;
      kind = λ v h. put_keeps after kept.size w variable (λ x. temporary x.allocation) kind v h ∙ kept.kind v h;
    }

-- a record with another allocation of its kind
pub counts-allocated :
    {before after : List ℕ} → CountsKept before after → (w : ℕ) (allocation : VarAlloc)
    → temporary allocation ≡ is_temporary after w
    → CountsKept before (record_put after w (allocated (record_at after w) allocation))
counts-allocated {before} {after} kept w allocation kind = counts-put kept w (allocated (record_at after w) allocation) refl refl kind

-- the same record
pub counts-again :
    {before after : List ℕ} → CountsKept before after → (w : ℕ) → CountsKept before (record_put after w (record_at after w))
unfolding is_temporary
counts-again {before} {after} kept w = counts-put kept w (record_at after w) refl refl refl

-- another place
placed_kind : (allocation : VarAlloc) (place : ℕ) → temporary (placed_alloc allocation place) ≡ temporary allocation
unfolding temporary
placed_kind (Temp context register safety to_perm) place = refl
placed_kind (Perm slot allocation) place = refl

pub counts_placed :
    {before after : List ℕ} → CountsKept before after → (w place : ℕ) → CountsKept before (record_put after w (placed_at (record_at after w) place))
unfolding is_temporary
counts_placed {before} {after} kept w place =
    counts-allocated kept w (placed_alloc (record_at after w).allocation place) (placed_kind (record_at after w).allocation place)

-- another allocation of the kind that its record says
pub counts_anew :
    {before after : List ℕ} {old : VarAlloc} → CountsKept before after → (w : ℕ) (allocation : VarAlloc)
    → (record_at after w).allocation ≡ old → temporary allocation ≡ temporary old
    → CountsKept before (record_put after w (allocated (record_at after w) allocation))
unfolding is_temporary
counts_anew kept w allocation e same = counts-allocated kept w allocation (same ∙ sym (ap temporary e))

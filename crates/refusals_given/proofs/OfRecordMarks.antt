-- Rule 4.8: a mark can meet the record of a temporary, and that of a permanent variable that is Done.
use Rattle.std.specs.Prelude.{ℕ, ◌*◌, ◌<◌, ◌≡◌, refl, true, List, length, Option, Some, None}
use Rattle.std.proofs.Common.{sym, subst, ◌∙◌}
use Rattle.std.proofs.lemmas.Bool.{false≢true}
use Rattle.notation.specs.ChoiceLaws.{either}
use Rattle.sizes.specs.Sizes.{variables}
use Rattle.forms.specs.declared.Branch.{Branch}
use Rattle.forms.specs.declared.GenContext.{GenContext}
use Rattle.forms.specs.declared.Level.{Level}
use Rattle.registers.specs.declared.RegType.{RegType}
use Rattle.targets.specs.declared.Target.{Target}
use Rattle.variable_records.specs.declared.PermVarAllocation.TheVariants.{Done, Pending}
use Rattle.variable_records.specs.declared.VarAlloc.{VarAlloc}
use Rattle.variable_records.specs.declared.VarAlloc.TheVariants.{Temp, Perm}
use Rattle.variable_records.specs.declared.VariableRecord.{VariableRecord}
use Rattle.variable_records.specs.Records.{placed_alloc, placed_at}
use Rattle.variable_records.specs.Rows.{row_cells, record_at, record_put}
use Rattle.variable_records.specs.TableLaws.{record_put-same, record_put-length}
use Rattle.variable_records.specs.Safety.{safety_unneeded}
use Rattle.record_marks.specs.RecordMarks.{argument_safe, argument_value_of, subterm_value_of, marked_safe_of, remembered_of}
use Rattle.invariants.specs.Every.{Every, every_at, every_put}
use Rattle.valid_stays.specs.Fits.{Kinds, AllocFits}

-- no permanent variable that is Pending
abbrev pub Settled : VarAlloc → Type 0
Settled (Temp context register safety to_perm) = Unit {0}
Settled (Perm slot (Done shallow deep)) = Unit {0}
Settled (Perm slot Pending) = ⊥

abbrev pub GoesOn : {A : Type 0} → Option A → Type 0
GoesOn (Some made) = Unit {0}
GoesOn None = ⊥

-- ---- One record

module _ (variable : VariableRecord) where
  pub argument_goes :
      (allocation : VarAlloc) → Settled allocation → (target : Target) (place : RegType) (k tail : ℕ) (branch : Branch)
      → GoesOn (argument_value_of allocation variable target place k tail branch)
  unfolding argument_value_of
  argument_goes (Temp context register safety to_perm) settled target place k tail branch = tt
  argument_goes (Perm slot Pending) settled target place k tail branch = settled
  argument_goes (Perm slot (Done shallow deep)) settled target place k tail branch =
      either GoesOn (argument_safe tail shallow branch) tt tt

  pub subterm_goes :
      (allocation : VarAlloc) → Settled allocation → (target : Target) (place : RegType) (branch : Branch)
      → GoesOn (subterm_value_of allocation variable target place branch)
  unfolding subterm_value_of
  subterm_goes (Temp context register safety to_perm) settled target place branch =
      either GoesOn (safety_unneeded safety branch) tt tt
  subterm_goes (Perm slot Pending) settled target place branch = settled
  subterm_goes (Perm slot (Done shallow deep)) settled target place branch =
      either GoesOn (safety_unneeded deep branch) tt tt

  pub safe_goes :
      (allocation : VarAlloc) → Settled allocation → (level : Level) (context : GenContext) (branch : Branch)
      → GoesOn (marked_safe_of allocation variable level context branch)
  safe_goes (Temp at register safety to_perm) settled level context branch = tt
  safe_goes (Perm slot Pending) settled level context branch = settled
  safe_goes (Perm slot (Done shallow deep)) settled level context branch = tt

  -- only a temporary has to remember
  pub remembered_goes :
      (k : Kinds) (w : ℕ) (allocation : VarAlloc) → AllocFits k w allocation → k.temporary w ≡ true
      → (v : ℕ) → GoesOn (remembered_of allocation variable v)
  remembered_goes k w (Temp context register safety to_perm) fits temporary v = tt
  remembered_goes k w (Perm slot allocation) fits temporary v = absurd (false≢true (sym fits.0 ∙ temporary))

placed_settled : (allocation : VarAlloc) (place : ℕ) → Settled allocation → Settled (placed_alloc allocation place)
placed_settled (Temp context register safety to_perm) place settled = tt
placed_settled (Perm slot Pending) place settled = settled
placed_settled (Perm slot (Done shallow deep)) place settled = tt

-- ---- The record of variable v in the table

module _ (v : ℕ) where
  abbrev Is : ℕ → VariableRecord → Type 0
  Is w variable = w ≡ v → Settled variable.allocation

  abbrev pub SettledIn : List ℕ → Type 0
  SettledIn records = Every Is records

  pub settled_in :
      {records : List ℕ} → length records ≡ variables * row_cells → Settled (record_at records v).allocation → SettledIn records
  settled_in {records} full settled =
      record {
        full = full;
        holds = λ w h same. subst (λ (w : ℕ). Settled (record_at records w).allocation) (sym same) settled;
      }

  pub settled_at : {records : List ℕ} → SettledIn records → v < variables → Settled (record_at records v).allocation
  settled_at every inside = every.holds v inside refl

  -- another place for any variable
  pub settled_placed :
      {records : List ℕ} → SettledIn records → (u place : ℕ)
      → SettledIn (record_put records u (placed_at (record_at records u) place))
  settled_placed {records} every u place =
      every_put Is every u (placed_at (record_at records u) place)
      (λ same. placed_settled (record_at records u).allocation place (every_at Is every u same))

  -- a new record for v
  pub settled-put :
      (records : List ℕ) → length records ≡ variables * row_cells → (variable : VariableRecord) → Settled variable.allocation
      → SettledIn (record_put records v variable)
  settled-put records full variable settled =
      settled_in (record_put-length records v variable ∙ full)
      (subst (λ (variable : VariableRecord). Settled variable.allocation) (sym (record_put-same records v variable full)) settled)

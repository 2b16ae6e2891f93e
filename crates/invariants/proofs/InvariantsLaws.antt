-- Two facts about every event: a record stays of its kind, and places stay in their sizes.
use Rattle.std.specs.Prelude.{ℕ, ◌+◌, ◌*◌, ◌%◌, ◌≤◌, ◌<◌, ◌≡◌, refl, List, eqb, length, replicate}
use Rattle.std.proofs.Common.{ap, ◌∙◌, arith}
use Rattle.std.proofs.lemmas.List.{length-replicate}
use Rattle.notation.specs.ChoiceLaws.{either}
use Rattle.sizes.specs.Sizes.{variables, uses, registers, freed_registers}
use Rattle.registers.specs.Registers.{number_of_place}
use Rattle.variable_records.specs.declared.Row.{Row}
use Rattle.variable_records.specs.declared.VarAlloc.{VarAlloc}
use Rattle.variable_records.specs.declared.VariableRecord.{VariableRecord}
use Rattle.variable_records.specs.Records.{place_of, place_of_alloc}
use Rattle.variable_records.specs.Rows.{row_cells, row_start, row_at, allocation_of, record_of, record_at, temporary, is_temporary}
use Rattle.temp_var_data.specs.Uses.{register_of}
use Rattle.events.specs.declared.Event.{Event}
use Rattle.debray_allocator.specs.declared.State.{State}
use Rattle.debray_allocator.specs.State.{fresh_state}
use Rattle.debray_allocator.specs.DebrayAllocator.{stepped}
use Rattle.invariants.specs.Lists.{all_plain, all_at, all_replicate}
use Rattle.invariants.specs.Every.{every_at, every_map, record_modulo}
use Rattle.invariants.specs.Kept.{Kept, holds_so, holds_kind, holds_place, kept_at}
use Rattle.invariants.specs.OfSteps.{FitsIn, stepped-fits}
use Rattle.invariants.specs.Invariants.{kinds_of, Fitting, PlaceFits, PlacesFit, up_to_last}

-- ---- Kinds stay: rule 6.5

kind_modulo : (records : List ℕ) (v : ℕ) → is_temporary records (v % variables) ≡ is_temporary records v
unfolding is_temporary
kind_modulo records v = ap (λ (variable : VariableRecord). temporary variable.allocation) (record_modulo records v)

kinds_now : (s : State) → length s.records ≡ variables * row_cells → FitsIn (kinds_of s) s
unfolding is_temporary
kinds_now s full =
    record {
      kept = record { full = full; holds = λ w h. holds_so (kinds_of s) w (record_at s.records w).allocation (λ known. refl) tt };
      uses = all_plain _ (λ n. tt) s.sets.use_sets;
      freed = all_plain _ (λ n. tt) s.freed_registers;
    }

kind_kept :
    (s : State) (records : List ℕ) → Kept (kinds_of s) records → (v : ℕ) → v < s.counters.records
    → is_temporary records v ≡ is_temporary s.records v
unfolding is_temporary
kind_kept s records kept v known =
    holds_kind (kinds_of s) (v % variables) (record_at records v).allocation (kept_at (kinds_of s) kept v) (omega arith)
    ∙ kind_modulo s.records v

kinds_after :
    (s : State) → length s.records ≡ variables * row_cells → (event : Event) (list : List ℕ)
    → Kept (kinds_of s) (stepped s event list).state.records
kinds_after s full event list =
    (stepped-fits (kinds_of s) s (kinds_now s full) (λ room kind next. absurd (omega arith)) event list).kept

-- v, one of the records before the event, is of the same kind after it
pub kinds_stay :
    (s : State) → length s.records ≡ variables * row_cells → (event : Event) (list : List ℕ) (v : ℕ) → v < s.counters.records
    → is_temporary (stepped s event list).state.records v ≡ is_temporary s.records v
kinds_stay s full event list v known =
    kind_kept s (stepped s event list).state.records (kinds_after s full event list) v known

-- and the table stays of full size
pub full_stays :
    (s : State) → length s.records ≡ variables * row_cells → (event : Event) (list : List ℕ)
    → length (stepped s event list).state.records ≡ variables * row_cells
full_stays s full event list = (kinds_after s full event list).full

-- ---- Places stay in their sizes: rule 3.4

from-wanted : (s : State) → FitsIn up_to_last s → PlacesFit s
from-wanted s fits =
    record {
      places = every_map _ PlaceFits (λ w variable h. holds_place up_to_last w variable.allocation h) fits.kept;
      uses = fits.uses;
      freed = fits.freed;
    }

as_wanted : (s : State) → PlacesFit s → FitsIn up_to_last s
as_wanted s fit =
    record {
      kept = every_map PlaceFits _ (λ w variable h. holds_so up_to_last w variable.allocation tt h) fit.places;
      uses = fit.uses;
      freed = fit.freed;
    }

-- every event keeps them so
pub places_fit : (s : State) → PlacesFit s → (event : Event) (list : List ℕ) → PlacesFit (stepped s event list).state
places_fit s fit event list =
    from-wanted (stepped s event list).state (stepped-fits up_to_last s (as_wanted s fit) (λ room kind. tt) event list)

-- the place of any variable is in its size
pub place_fits_lem : (s : State) → PlacesFit s → (v : ℕ) → number_of_place (place_of (record_at s.records v)) ≤ registers
place_fits_lem s fit v = every_at PlaceFits fit.places v

-- ---- A fresh clause

row_place : (row : Row) → number_of_place (place_of_alloc (allocation_of row)) ≡ row.place
unfolding allocation_of
row_place row =
    either (λ (allocation : VarAlloc). number_of_place (place_of_alloc allocation) ≡ row.place) (eqb row.kind 0) refl refl

-- a table of zeros: every place is 0
zeros_fit : (cells w : ℕ) → PlaceFits w (record_at (replicate cells 0) w)
unfolding record_at record_of
zeros_fit cells w =
    rw (row_place (row_at (replicate cells 0) w))
    (all_at Fitting (replicate cells 0) (row_start w + 3) 0 (all_replicate Fitting cells 0 (omega arith)) (omega arith))

pub places_fit_fresh : PlacesFit fresh_state
places_fit_fresh =
    record {
      places = record { full = length-replicate {A = ℕ} (variables * row_cells) 0; holds = λ w h. zeros_fit (variables * row_cells) w };
      uses = all_replicate (λ code. Fitting (register_of code)) (variables * uses) 0 (omega arith);
      freed = all_replicate Fitting freed_registers 0 (omega arith);
    }

-- Two facts about every event: a record stays of its kind, and places stay in their sizes.
use Rattle.std.specs.Prelude.{ℕ, ◌≤◌, ◌<◌, ◌≡◌}
use Rattle.std.proofs.Common.{arith}
use Rattle.sizes.specs.Sizes.{registers}
use Rattle.registers.specs.Registers.{number_of_place}
use Rattle.variable_records.specs.declared.VariableRecord.{VariableRecord}
use Rattle.variable_records.specs.Records.{place_of}
use Rattle.variable_records.specs.Rows.{is_temporary}
use Rattle.temp_var_data.specs.Uses.{register_of}
use Rattle.debray_allocator.specs.declared.State.{State}
use Rattle.invariants.specs.Lists.{All}
use Rattle.invariants.specs.Every.{Every}
use Rattle.invariants.specs.Kept.{Wanted}

-- ---- Kinds stay: rule 6.5

-- of the records that there are, the kind that they have
abbrev pub kinds_of : State → Wanted
kinds_of s =
    record {
      Kind = λ w kind. w < s.counters.records → kind ≡ is_temporary s.records w;
      Good = λ n. Unit {0};
      small = λ n h. tt;
    }

-- ---- Places stay in their sizes: rule 3.4

-- a register or slot is at most 63; 0 is none
abbrev pub Fitting : ℕ → Type 0
Fitting n = n ≤ registers

-- the place of a record, a register's number or a slot's
abbrev pub PlaceFits : ℕ → VariableRecord → Type 0
PlaceFits w variable = Fitting (number_of_place (place_of variable))

-- so is the place of every record of a full table, the register of every use, and every register that was freed
pub record PlacesFit (s : State) : Type 0 where
  pub places : Every PlaceFits s.records
  pub uses : All (λ code. Fitting (register_of code)) s.sets.use_sets
  pub freed : All Fitting s.freed_registers

-- of any kind, in a place up to 63
abbrev pub up_to_last : Wanted
up_to_last = record { Kind = λ w kind. Unit {0}; Good = Fitting; small = λ n h. omega arith }

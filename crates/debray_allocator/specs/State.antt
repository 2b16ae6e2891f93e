-- What a clause keeps: rule 6.1.
use Rattle.std.specs.Prelude.{ℕ, ◌+◌, ◌*◌, List, eqb, replicate}
use Rattle.std.specs.Prelude.{if◌then◌else◌}
use Rattle.sizes.specs.Sizes.{variables, uses, registers, open_branches, freed_registers, freed_slots}
use Rattle.variable_records.specs.Rows.{row_cells}
use Rattle.shallow_temp_mappings.specs.Mappings.{unmapped}
use Rattle.perm_free_list.specs.PermFreeList.{entry_cells}
use Rattle.branch_stack.specs.BranchStack.{numbers_per_branch, sets_per_branch}
use Rattle.allocator_state.specs.declared.Counters.{Counters}
use Rattle.allocator_state.specs.State.{fresh_counters}
use Rattle.restricting_sets.specs.declared.VariableSets.{VariableSets}
use Rattle.restricting_sets.specs.Restricting.{sets as variable_sets}
use Rattle.branch_stack.specs.declared.BranchStack.{BranchStack}
use Rattle.debray_allocator.specs.declared.State.{State}

abbrev pub branch_tables : List ℕ → List ℕ → BranchStack
branch_tables rows sets = record { rows = rows; sets = sets }

abbrev pub state_of : Counters → List ℕ → VariableSets → List ℕ → List ℕ → List ℕ → BranchStack → State
state_of counters records sets mappings freed_registers freed_slots branches =
    record {
      counters = counters;
      records = records;
      sets = sets;
      mappings = mappings;
      freed_registers = freed_registers;
      freed_slots = freed_slots;
      branches = branches;
    }

-- rule 6.2: a fresh clause
abbrev pub fresh_state : State
fresh_state =
    state_of
    fresh_counters
    (replicate (variables * row_cells) 0)
    (variable_sets (replicate (variables * uses) 0) (replicate variables 0) (replicate variables 0) (replicate variables 0))
    (replicate (registers + 1) unmapped)
    (replicate freed_registers 0)
    (replicate (freed_slots * entry_cells) 0)
    (branch_tables (replicate (open_branches * numbers_per_branch) 0) (replicate (open_branches * sets_per_branch) 0))

-- ---- One table replaced, the others kept

-- a table that is one list has a number, its place among those, from 0; the table of that number becomes list
abbrev pub with_table : ℕ → List ℕ → State → State
with_table table list s =
    state_of
    s.counters
    (if eqb table 0 then list else s.records)
    s.sets
    (if eqb table 1 then list else s.mappings)
    (if eqb table 2 then list else s.freed_registers)
    (if eqb table 3 then list else s.freed_slots)
    s.branches

abbrev pub put_records : List ℕ → State → State
put_records = with_table 0

abbrev pub put_mappings : List ℕ → State → State
put_mappings = with_table 1

abbrev pub put_freed_registers : List ℕ → State → State
put_freed_registers = with_table 2

abbrev pub put_freed_slots : List ℕ → State → State
put_freed_slots = with_table 3

-- ---- A struct of tables replaced, the others kept

abbrev pub put_sets : VariableSets → State → State
put_sets sets s = state_of s.counters s.records sets s.mappings s.freed_registers s.freed_slots s.branches

abbrev pub put_branches : List ℕ → List ℕ → State → State
put_branches rows sets s =
    state_of s.counters s.records s.sets s.mappings s.freed_registers s.freed_slots (branch_tables rows sets)

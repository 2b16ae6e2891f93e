-- A state by the parts that a test looks at: its counters, the records and one kind of table. The rest is left out.
use Rattle.std.specs.Prelude.{ℕ, List, []}
use Rattle.allocator_state.specs.declared.Counters.{Counters}
use Rattle.restricting_sets.specs.declared.VariableSets.{VariableSets}
use Rattle.restricting_sets.specs.Restricting.{sets}
use Rattle.branch_stack.specs.declared.BranchStack.{BranchStack}
use Rattle.debray_allocator.specs.declared.State.{State}
use Rattle.debray_allocator.specs.State.{state_of, branch_tables}

abbrev pub no_sets : VariableSets
no_sets = sets [] [] [] []

abbrev pub no_branches : BranchStack
no_branches = branch_tables [] []

module _ (c : Counters) (records : List ℕ) where
  abbrev pub of_records : State
  of_records = state_of c records no_sets [] [] [] no_branches

  abbrev pub of_sets : VariableSets → State
  of_sets s = state_of c records s [] [] [] no_branches

  abbrev pub of_mappings : List ℕ → State
  of_mappings mappings = state_of c records no_sets mappings [] [] no_branches

  abbrev pub of_branches : BranchStack → State
  of_branches branches = state_of c records no_sets [] [] [] branches

module _ (c : Counters) where
  abbrev pub of_freed_registers : List ℕ → State
  of_freed_registers list = state_of c [] no_sets [] list [] no_branches

  abbrev pub of_freed_slots : List ℕ → State
  of_freed_slots list = state_of c [] no_sets [] [] list no_branches

-- When a state that a host lends is valid: rule 17.4. What lies past a count is not looked at: rule 17.5.
use Rattle.std.specs.Prelude.{ℕ, zero, suc, ◌+◌, ◌*◌, Bool, true, not, ◌&&◌, ◌||◌, eqb, leb, ltb, get_or}
use Rattle.sizes.specs.Sizes.{variables, uses, registers, counters, freed_registers, freed_slots, open_branches, is_register, is_argument, is_chunk, is_count}
use Rattle.bit_set.specs.BitSet.{has}
use Rattle.variable_records.specs.declared.Row.{Row}
use Rattle.variable_records.specs.Rows.{unset, row_at, is_temporary}
use Rattle.register_sets.specs.RegisterSets.{set_at}
use Rattle.restricting_sets.specs.declared.VariableSets.{VariableSets}
use Rattle.shallow_temp_mappings.specs.Mappings.{unmapped}
use Rattle.perm_free_list.specs.declared.FreedSlot.{FreedSlot}
use Rattle.perm_free_list.specs.PermFreeList.{entry_at}
use Rattle.branch_stack.specs.declared.BranchOccurrences.{BranchOccurrences}
use Rattle.branch_stack.specs.BranchStack.{occurrences_at}
use Rattle.allocator_state.specs.declared.Counters.{Counters}
use Rattle.events.specs.Events.{is_use}
use Rattle.debray_allocator.specs.declared.State.{State}

-- every one of the numbers below n passes
unfoldable pub all_below : ℕ → (ℕ → Bool) → Bool
all_below zero test = true
all_below (suc n) test = all_below n test && test n

-- ---- The counters

-- rule 3.11
abbrev pub is_counter : ℕ → Bool
is_counter n = leb 1 n && leb n counters

-- no set of registers has 0
abbrev pub is_register_set : ℕ → Bool
is_register_set s = not (has s 0)

abbrev pub counters_fit : Counters → Bool
counters_fit c =
    is_counter c.arg_c
    && (is_counter c.temp_lb
    && (is_counter c.perm_lb
    && (is_argument c.arity
    && (leb c.in_tail_position 1
    && (leb c.records variables
    && (leb c.events_seen 1
    && (leb c.freed_registers freed_registers
    && (ltb c.first_freed_slot freed_slots
    && (leb c.freed_slots freed_slots && (leb c.open_branches open_branches && is_register_set c.in_use))))))))))

-- ---- The records and their sets

-- a temporary's number for its permanent variable names one, or none
abbrev pub names_none_or : ℕ → ℕ → Bool
names_none_or records v = eqb v unset || ltb v records

abbrev pub row_fits : ℕ → Row → Bool
row_fits records row =
    leb row.kind 1
    && (leb row.context 2
    && (is_chunk row.chunk
    && (is_argument row.place
    && (leb row.pending 1
    && (leb row.safety.code 2
    && (leb row.deep.code 2
    && (names_none_or records row.to_perm_var_num
    && (is_count row.num_occurrences && is_count row.running_count))))))))

-- the uses of variable v that count
abbrev pub uses_fit : VariableSets → ℕ → Bool
uses_fit s v =
    leb (get_or s.use_counts v 0) uses && all_below (get_or s.use_counts v 0) (λ i. is_use (get_or s.use_sets (v * uses + i) 0))

module _ (s : State) where
  abbrev pub variable_fits : ℕ → Bool
  variable_fits v =
      row_fits s.counters.records (row_at s.records v)
      && (uses_fit s.sets v
      && (is_register_set (set_at s.sets.no_use v) && is_register_set (set_at s.sets.conflict v)))

  -- ---- The other tables

  abbrev pub is_variable : ℕ → Bool
  is_variable v = ltb v s.counters.records

  -- a mapping names a temporary, or none
  abbrev pub mapping_fits : ℕ → Bool
  mapping_fits r =
      eqb (get_or s.mappings r 0) unmapped
      || is_variable (get_or s.mappings r 0) && is_temporary s.records (get_or s.mappings r 0)

  abbrev pub freed_register_fits : ℕ → Bool
  freed_register_fits i = is_register (get_or s.freed_registers i 0)

  abbrev pub entry_fits : FreedSlot → Bool
  entry_fits entry = is_chunk entry.chunk && is_variable entry.variable

  abbrev pub freed_slot_fits : ℕ → Bool
  freed_slot_fits i = entry_fits (entry_at s.freed_slots s.counters.first_freed_slot i)

  -- the members of a set of variables have records; those of a branch's recorded set are permanent
  abbrev pub are_variables : ℕ → Bool
  are_variables set = all_below variables (λ v. not (has set v) || is_variable v)

  abbrev pub are_permanent : ℕ → Bool
  are_permanent set = all_below variables (λ v. not (has set v) || is_variable v && not (is_temporary s.records v))

  abbrev pub occurrences_fit : BranchOccurrences → Bool
  occurrences_fit branch =
      is_count branch.num_branches
      && (is_count branch.current_branch_idx
      && (are_variables branch.shallow_safety
      && (are_variables branch.deep_safety && are_permanent branch.subsumed_hits)))

  abbrev pub branch_fits : ℕ → Bool
  branch_fits level = occurrences_fit (occurrences_at s.branches.rows s.branches.sets level)

  unfoldable pub is_valid : Bool
  is_valid =
      counters_fit s.counters
      && (all_below s.counters.records variable_fits
      && (all_below (registers + 1) mapping_fits
      && (all_below s.counters.freed_registers freed_register_fits
      && (all_below s.counters.freed_slots freed_slot_fits && all_below s.counters.open_branches branch_fits))))

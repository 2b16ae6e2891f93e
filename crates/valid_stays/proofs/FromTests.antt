-- What the tests of a lent state say of it.
use Rattle.std.specs.Prelude.{ℕ, ◌+◌, ◌*◌, ◌≤◌, ◌<◌, ◌≡◌, refl, true, false, not, ◌&&◌, ◌||◌, eqb, leb, ltb, get_or}
use Rattle.std.proofs.Common.{inl, inr, ⊎_elim, ltb-true, leb-true, eqb-true}
use Rattle.std.proofs.lemmas.Bool.{not-true}
use Rattle.notation.specs.ChoiceLaws.{both_true}
use Rattle.sizes.specs.Sizes.{variables, uses, registers, counters, freed_registers, freed_slots, open_branches, is_argument, is_chunk, is_count}
use Rattle.sizes.specs.SizesLaws.{register_exactly}
use Rattle.bit_set.specs.BitSet.{has}
use Rattle.variable_records.specs.Rows.{row_at, is_temporary}
use Rattle.register_sets.specs.RegisterSets.{set_at}
use Rattle.shallow_temp_mappings.specs.Mappings.{unmapped}
use Rattle.perm_free_list.specs.PermFreeList.{entry_at}
use Rattle.branch_stack.specs.declared.BranchOccurrences.{BranchOccurrences}
use Rattle.branch_stack.specs.BranchStack.{occurrences_at}
use Rattle.allocator_state.specs.declared.Counters.{Counters}
use Rattle.events.specs.Events.{is_use}
use Rattle.debray_allocator.specs.declared.State.{State}
use Rattle.valid_states.specs.ValidStates.{all_below, is_counter, is_register_set, counters_fit, row_fits, uses_fit, variable_fits, is_variable, mapping_fits, freed_register_fits, freed_slot_fits, are_variables, are_permanent, occurrences_fit, branch_fits, is_valid}
use Rattle.valid_stays.specs.Tests.{one_of, implied, below_at}
use Rattle.valid_stays.specs.Fits.{Kinds, Counter, Counts, AllIn, Variable, Permanent, Named, BranchFits, StateFits, Full}

-- ---- The counters

counter_of : (n : ℕ) → is_counter n ≡ true → Counter n
counter_of n e = let b = both_true (leb 1 n) (leb n counters) e in record { some = leb-true _ _ b.0; last = leb-true _ _ b.1 }

pub record CountersSaid (c : Counters) : Type 0 where
  pub small : c.records ≤ variables
  pub counts : (k : Kinds) → c.records ≡ k.count → Counts k c

counters_said : (c : Counters) → counters_fit c ≡ true → CountersSaid c
counters_said c e =
    let argument = both_true (is_counter c.arg_c) _ e in
    let search_start = both_true (is_counter c.temp_lb) _ argument.1 in
    let slot = both_true (is_counter c.perm_lb) _ search_start.1 in
    let arity = both_true (is_argument c.arity) _ slot.1 in
    let tail = both_true (leb c.in_tail_position 1) _ arity.1 in
    let records = both_true (leb c.records variables) _ tail.1 in
    let seen = both_true (leb c.events_seen 1) _ records.1 in
    let freed = both_true (leb c.freed_registers freed_registers) _ seen.1 in
    let front = both_true (ltb c.first_freed_slot freed_slots) _ freed.1 in
    let queued = both_true (leb c.freed_slots freed_slots) _ front.1 in
    let opened = both_true (leb c.open_branches open_branches) (is_register_set c.in_use) queued.1 in
    record {
      small = leb-true _ _ records.0;
      counts = λ k same.
          record {
            argument = counter_of c.arg_c argument.0;
            search_start = counter_of c.temp_lb search_start.0;
            slot = counter_of c.perm_lb slot.0;
            arity = leb-true _ _ arity.0;
            tail = leb-true _ _ tail.0;
            records = same;
            seen = leb-true _ _ seen.0;
            freed = leb-true _ _ freed.0;
            front = ltb-true _ _ front.0;
            queued = leb-true _ _ queued.0;
            opened = leb-true _ _ opened.0;
            usable = not-true _ opened.1;
          };
    }

-- ---- The tables

module _ (s : State) (small : s.counters.records ≤ variables) where
  -- the variables of a state
  abbrev pub kinds_of : Kinds
  kinds_of = record { count = s.counters.records; small = small; temporary = is_temporary s.records }

  mapping_named : (r : ℕ) → mapping_fits s r ≡ true → Named kinds_of (get_or s.mappings r 0)
  mapping_named r e =
      let m = get_or s.mappings r 0 in
      ⊎_elim (λ none. inl (eqb-true m unmapped none))
      (λ known. (let b = both_true (is_variable s m) (is_temporary s.records m) known in inr (ltb-true _ _ b.0, b.1)))
      (one_of (eqb m unmapped) (is_variable s m && is_temporary s.records m) e)

  variables_in : (set : ℕ) → are_variables s set ≡ true → AllIn (Variable kinds_of) set
  variables_in set e v h member =
      ltb-true _ _ (implied (has set v) (is_variable s v) (below_at (λ v. not (has set v) || is_variable s v) variables v e h) member)

  permanent_in : (set : ℕ) → are_permanent s set ≡ true → AllIn (Permanent kinds_of) set
  permanent_in set e v h member =
      let known = is_variable s v && not (is_temporary s.records v) in
      let b = both_true (is_variable s v) (not (is_temporary s.records v))
      (implied (has set v) known
      (below_at (λ v. not (has set v) || is_variable s v && not (is_temporary s.records v)) variables v e h) member) in
      (ltb-true _ _ b.0, not-true _ b.1)

  occurrences_fit_lem : (branch : BranchOccurrences) → occurrences_fit s branch ≡ true → BranchFits kinds_of branch
  occurrences_fit_lem branch e =
      let arms = both_true (is_count branch.num_branches) _ e in
      let arm = both_true (is_count branch.current_branch_idx) _ arms.1 in
      let shallow = both_true (are_variables s branch.shallow_safety) _ arm.1 in
      let deep = both_true (are_variables s branch.deep_safety) (are_permanent s branch.subsumed_hits) shallow.1 in
      record {
        arms = leb-true _ _ arms.0;
        arm = leb-true _ _ arm.0;
        shallow = variables_in branch.shallow_safety shallow.0;
        deep = variables_in branch.deep_safety deep.0;
        hits = permanent_in branch.subsumed_hits deep.1;
      }

pub record VariableSaid (s : State) (v : ℕ) : Type 0 where
  pub row : row_fits s.counters.records (row_at s.records v) ≡ true
  pub count : get_or s.sets.use_counts v 0 ≤ uses
  pub each : (i : ℕ) → i < get_or s.sets.use_counts v 0 → is_use (get_or s.sets.use_sets (v * uses + i) 0) ≡ true
  pub no_use : has (set_at s.sets.no_use v) 0 ≡ false
  pub conflict : has (set_at s.sets.conflict v) 0 ≡ false

variable_said : (s : State) (v : ℕ) → variable_fits s v ≡ true → VariableSaid s v
variable_said s v e =
    let count = get_or s.sets.use_counts v 0 in
    let row = both_true (row_fits s.counters.records (row_at s.records v)) _ e in
    let used = both_true (uses_fit s.sets v) _ row.1 in
    let u = both_true (leb count uses) (all_below count (λ i. is_use (get_or s.sets.use_sets (v * uses + i) 0))) used.0 in
    let sets = both_true (is_register_set (set_at s.sets.no_use v)) (is_register_set (set_at s.sets.conflict v)) used.1 in
    record {
      row = row.0;
      count = leb-true _ _ u.0;
      each = λ i h. below_at (λ i. is_use (get_or s.sets.use_sets (v * uses + i) 0)) count i u.1 h;
      no_use = not-true _ sets.0;
      conflict = not-true _ sets.1;
    }

-- ---- The state

pub valid_small : (s : State) → is_valid s ≡ true → s.counters.records ≤ variables
unfolding is_valid
valid_small s e = (counters_said s.counters (both_true (counters_fit s.counters) _ e).0).small

pub valid_fits : (s : State) → Full s → (e : is_valid s ≡ true) → StateFits (kinds_of s (valid_small s e)) s
unfolding is_valid
valid_fits s full e =
    let c = s.counters in
    let counted = both_true (counters_fit c) _ e in
    let known = both_true (all_below c.records (variable_fits s)) _ counted.1 in
    let mapped = both_true (all_below (registers + 1) (mapping_fits s)) _ known.1 in
    let given = both_true (all_below c.freed_registers (freed_register_fits s)) _ mapped.1 in
    let queued = both_true (all_below c.freed_slots (freed_slot_fits s)) (all_below c.open_branches (branch_fits s)) given.1 in
    let small = valid_small s e in
    let k = kinds_of s small in
    let said : (v : ℕ) → v < c.records → VariableSaid s v =
    λ v h. variable_said s v (below_at (variable_fits s) c.records v known.0 h) in
    record {
      whole = record {
        counted = (counters_said c counted.0).counts k refl;
        recorded = record { full = full.records; row = λ w h. (said w h).row; kind = λ w h. refl };
        mapped = record {
          full = full.mappings;
          named = λ r h. mapping_named s small r (below_at (mapping_fits s) (registers + 1) r mapped.0 h);
        };
        queued = record {
          full = full.queue;
          entry = λ i h.
              (let entry = entry_at s.freed_slots c.first_freed_slot i in
              let b = both_true (is_chunk entry.chunk) (is_variable s entry.variable)
              (below_at (freed_slot_fits s) c.freed_slots i queued.0 h) in
              record { chunk = leb-true _ _ b.0; variable = ltb-true _ _ b.1 });
        };
        given = record {
          full = full.given;
          register = λ i h.
              (let r = (register_exactly (get_or s.freed_registers i 0)).0
              (below_at (freed_register_fits s) c.freed_registers i given.0 h) in
              record { some = r.0; last = r.1 });
        };
        opened = record {
          rows_full = full.branch_rows;
          sets_full = full.branch_sets;
          level = λ level h.
              occurrences_fit_lem s small (occurrences_at s.branches.rows s.branches.sets level)
              (below_at (branch_fits s) c.open_branches level queued.1 h);
        };
      };
      uses = record {
        sets_full = full.use_sets;
        counts_full = full.use_counts;
        count = λ v h. (said v h).count;
        each = λ v h. (said v h).each;
      };
      restricted = record {
        no_use_full = full.no_use;
        conflict_full = full.conflict;
        no_used = λ v h. (said v h).no_use;
        conflicts = λ v h. (said v h).conflict;
      };
    }

-- A state whose tables fit passes the tests of a lent state.
use Rattle.std.specs.Prelude.{ℕ, ◌+◌, ◌*◌, ◌<◌, ◌≡◌, true, not, ◌&&◌, ◌||◌, eqb, leb, get_or}
use Rattle.std.proofs.Common.{sym, subst, ◌∙◌, ⊎_elim, arith, lt-ltb, le-leb, eq-eqb}
use Rattle.sizes.specs.Sizes.{variables, uses, registers, is_chunk, is_count}
use Rattle.sizes.specs.SizesLaws.{register_exactly}
use Rattle.bit_set.specs.BitSet.{has}
use Rattle.variable_records.specs.Rows.{row_at, is_temporary}
use Rattle.register_sets.specs.RegisterSets.{set_at}
use Rattle.shallow_temp_mappings.specs.Mappings.{unmapped}
use Rattle.perm_free_list.specs.PermFreeList.{entry_at}
use Rattle.branch_stack.specs.declared.BranchOccurrences.{BranchOccurrences}
use Rattle.branch_stack.specs.BranchStack.{occurrences_at}
use Rattle.allocator_state.specs.declared.Counters.{Counters}
use Rattle.events.specs.Events.{is_use}
use Rattle.debray_allocator.specs.declared.State.{State}
use Rattle.valid_states.specs.ValidStates.{all_below, is_register_set, counters_fit, row_fits, uses_fit, variable_fits, is_variable, mapping_fits, freed_register_fits, freed_slot_fits, are_variables, are_permanent, occurrences_fit, branch_fits, is_valid}
use Rattle.valid_stays.specs.Tests.{both_so, left_so, right_so, implies_so, not_so, below_so}
use Rattle.valid_stays.specs.Fits.{Kinds, Counts, AllIn, Variable, Permanent, BranchFits, StateFits, Full}

counters_fit_lem : (k : Kinds) (c : Counters) → Counts k c → counters_fit c ≡ true
counters_fit_lem k c n =
    simp (
      le-leb _ _ n.argument.some,
      le-leb _ _ n.argument.last,
      le-leb _ _ n.search_start.some,
      le-leb _ _ n.search_start.last,
      le-leb _ _ n.slot.some,
      le-leb _ _ n.slot.last,
      le-leb _ _ n.arity,
      le-leb _ _ n.tail,
      le-leb c.records variables (omega (arith, n.records, k.small)),
      le-leb _ _ n.seen,
      le-leb _ _ n.freed,
      lt-ltb _ _ n.front,
      le-leb _ _ n.queued,
      le-leb _ _ n.opened,
      n.usable,
    )

module _ (s : State) (k : Kinds) (fits : StateFits k s) where
  same : s.counters.records ≡ k.count
  same = fits.whole.counted.records

  is_variable_lem : (v : ℕ) → v < k.count → is_variable s v ≡ true
  is_variable_lem v known = lt-ltb v s.counters.records (omega (arith, same))

  variable_fits_lem : (v : ℕ) → v < s.counters.records → variable_fits s v ≡ true
  variable_fits_lem v h =
      let known : v < k.count = omega (arith, same) in
      let count = get_or s.sets.use_counts v 0 in
      let row = row_at s.records v in
      both_so (row_fits s.counters.records row) _
      (subst (λ (n : ℕ). row_fits n row ≡ true) (sym same) (fits.whole.recorded.row v known))
      (both_so (uses_fit s.sets v) _
      (both_so (leb count uses) _ (le-leb _ _ (fits.uses.count v known))
      (below_so (λ i. is_use (get_or s.sets.use_sets (v * uses + i) 0)) count (fits.uses.each v known)))
      (both_so (is_register_set (set_at s.sets.no_use v)) (is_register_set (set_at s.sets.conflict v)) (not_so _ (fits.restricted.no_used v known))
      (not_so _ (fits.restricted.conflicts v known))))

  mapping_fits_lem : (r : ℕ) → r < registers + 1 → mapping_fits s r ≡ true
  mapping_fits_lem r h =
      let m = get_or s.mappings r 0 in
      ⊎_elim (λ none. left_so (eqb m unmapped) _ (eq-eqb m unmapped none))
      (λ t. right_so (eqb m unmapped) _
      (both_so (is_variable s m) (is_temporary s.records m) (is_variable_lem m t.0) (fits.whole.recorded.kind m t.0 ∙ t.1)))
      (fits.whole.mapped.named r h)

  freed_register_fits_lem : (i : ℕ) → i < s.counters.freed_registers → freed_register_fits s i ≡ true
  freed_register_fits_lem i h =
      let p = fits.whole.given.register i h in
      (register_exactly (get_or s.freed_registers i 0)).1 (p.some, p.last)

  freed_slot_fits_lem : (i : ℕ) → i < s.counters.freed_slots → freed_slot_fits s i ≡ true
  freed_slot_fits_lem i h =
      let e = fits.whole.queued.entry i h in
      let entry = entry_at s.freed_slots s.counters.first_freed_slot i in
      both_so (is_chunk entry.chunk) (is_variable s entry.variable) (le-leb _ _ e.chunk) (is_variable_lem entry.variable e.variable)

  variables_so : (set : ℕ) → AllIn (Variable k) set → are_variables s set ≡ true
  variables_so set all =
      below_so (λ v. not (has set v) || is_variable s v) variables
      (λ v h. implies_so (has set v) (is_variable s v) (λ member. is_variable_lem v (all v h member)))

  permanent_so : (set : ℕ) → AllIn (Permanent k) set → are_permanent s set ≡ true
  permanent_so set all =
      below_so (λ v. not (has set v) || is_variable s v && not (is_temporary s.records v)) variables
      (λ v h. implies_so (has set v) (is_variable s v && not (is_temporary s.records v))
      (λ member. (let p = all v h member in
      both_so (is_variable s v) (not (is_temporary s.records v)) (is_variable_lem v p.0)
      (not_so _ (fits.whole.recorded.kind v p.0 ∙ p.1)))))

  occurrences_so : (branch : BranchOccurrences) → BranchFits k branch → occurrences_fit s branch ≡ true
  occurrences_so branch b =
      both_so (is_count branch.num_branches) _ (le-leb _ _ b.arms)
      (both_so (is_count branch.current_branch_idx) _ (le-leb _ _ b.arm)
      (both_so (are_variables s branch.shallow_safety) _ (variables_so branch.shallow_safety b.shallow)
      (both_so (are_variables s branch.deep_safety) (are_permanent s branch.subsumed_hits) (variables_so branch.deep_safety b.deep)
      (permanent_so branch.subsumed_hits b.hits))))

  pub fits_valid : is_valid s ≡ true
  unfolding is_valid
  fits_valid =
      let c = s.counters in
      both_so (counters_fit c) _ (counters_fit_lem k c fits.whole.counted)
      (both_so (all_below c.records (variable_fits s)) _ (below_so (variable_fits s) c.records variable_fits_lem)
      (both_so (all_below (registers + 1) (mapping_fits s)) _ (below_so (mapping_fits s) (registers + 1) mapping_fits_lem)
      (both_so (all_below c.freed_registers (freed_register_fits s)) _
      (below_so (freed_register_fits s) c.freed_registers freed_register_fits_lem)
      (both_so (all_below c.freed_slots (freed_slot_fits s)) (all_below c.open_branches (branch_fits s))
      (below_so (freed_slot_fits s) c.freed_slots freed_slot_fits_lem)
      (below_so (branch_fits s) c.open_branches
      (λ level h. occurrences_so (occurrences_at s.branches.rows s.branches.sets level) (fits.whole.opened.level level h)))))))

  pub fits_full : Full s
  fits_full =
      record {
        records = fits.whole.recorded.full;
        use_sets = fits.uses.sets_full;
        use_counts = fits.uses.counts_full;
        no_use = fits.restricted.no_use_full;
        conflict = fits.restricted.conflict_full;
        mappings = fits.whole.mapped.full;
        given = fits.whole.given.full;
        queue = fits.whole.queued.full;
        branch_rows = fits.whole.opened.rows_full;
        branch_sets = fits.whole.opened.sets_full;
      }

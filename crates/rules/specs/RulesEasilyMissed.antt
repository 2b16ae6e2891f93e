-- Rules that are easily missed, each as a fact about the definitions.
use Rattle.std.specs.Prelude.{ℕ, ◌+◌, ◌*◌, ◌%◌, ◌≤◌, ◌<◌, ◌≡◌, true, false, List, [], ◌∷◌, ◌++◌, ◌↔◌, ◌⊎◌, ◌≢◌, length, get_or, Some, None}
use Rattle.std.proofs.Math.Path.{refl, ap}
use Rattle.std.proofs.Common.{sym, ◌∙◌, inl, inr, arith, lt-ltb}
use Rattle.std.proofs.Math.Bool.{false≢true}
use Rattle.sizes.specs.Sizes.{variables, registers, chunks, freed_registers, freed_slots}
use Rattle.bit_set.specs.BitSet.{has, union}
use Rattle.registers.specs.declared.RegType.TheVariants.{Temp as TempRegister, Perm as PermSlot}
use Rattle.instructions.specs.declared.Instruction.TheVariants.{GetVariable}
use Rattle.targets.specs.declared.Target.{Target}
use Rattle.targets.specs.declared.Target.TheVariants.{Fact}
use Rattle.targets.specs.Targets.{argument_to_variable}
use Rattle.code_deque.specs.declared.CodeDeque.{CodeDeque}
use Rattle.code_deque.specs.CodeDeque.{pushed}
use Rattle.forms.specs.declared.Branch.{Branch}
use Rattle.forms.specs.declared.GenContext.{GenContext}
use Rattle.forms.specs.declared.GenContext.TheVariants.{Head}
use Rattle.forms.specs.declared.Level.{Level}
use Rattle.forms.specs.declared.Level.TheVariants.{Shallow}
use Rattle.forms.specs.Forms.{chunk_num}
use Rattle.variable_records.specs.declared.VarSafetyStatus.{VarSafetyStatus}
use Rattle.variable_records.specs.declared.VarSafetyStatus.TheVariants.{Needed, GloballyUnneeded}
use Rattle.variable_records.specs.declared.PermVarAllocation.{PermVarAllocation}
use Rattle.variable_records.specs.declared.PermVarAllocation.TheVariants.{Done, Pending}
use Rattle.variable_records.specs.declared.VarAlloc.TheVariants.{Temp, Perm}
use Rattle.variable_records.specs.declared.VariableRecord.{VariableRecord}
use Rattle.variable_records.specs.Records.{allocated}
use Rattle.variable_records.specs.Rows.{row_cells, record_at, record_put, is_temporary}
use Rattle.register_sets.specs.RegisterSets.{set_at}
use Rattle.temp_var_data.specs.TestLaws.{refuted}
use Rattle.temp_var_data.specs.Lists.{◌∈◌}
use Rattle.temp_var_data.specs.Uses.{last_context, use_code, register_of, uses_of}
use Rattle.perm_free_list.specs.declared.FreedSlot.{FreedSlot}
use Rattle.perm_free_list.specs.PermFreeList.{entry_cells, entries, pending_slot, free_slot, none, gives, looked}
use Rattle.perm_free_list.specs.declared.Taken.{Taken}
use Rattle.perm_free_list.specs.PermFreeListLaws.{looked_late, looked-taken, looked_dropped}
use Rattle.allocator_state.specs.declared.Counters.{Counters}
use Rattle.choice.specs.Choice.{in_use, least_outside}
use Rattle.choice.specs.ChoiceRules.{use_set_wins, otherwise_least}
use Rattle.evacuation.specs.Evacuation.{alloc_with_cr, alloc_with_ca, going_on}
use Rattle.allocation.specs.Allocation.{popped, non_var, Placement, without_front, placed_in, perm_placed}
use Rattle.record_marks.specs.declared.MarkedSafe.TheVariants.{Safe}
use Rattle.record_marks.specs.RecordMarks.{in_place, marked_safe}
use Rattle.reserved_var.specs.ReservedVar.{step, instructed_after, safe_made, argument_made}
use Rattle.resets.specs.Resets.{whole_reset, contents_reset}
use Rattle.restricting_sets.specs.declared.VariableSets.{VariableSets}
use Rattle.clause_records.specs.ClauseRecords.{populated}
use Rattle.clause_records.specs.ClauseRecordsLaws.{chunk_in, Temporary, no_use_of_records, conflict_of_records}
use Rattle.events.specs.declared.Event.TheVariants.{Var, Cut, Reset}
use Rattle.events.specs.Events.{refusal_before, refusal_by_size}
use Rattle.debray_allocator.specs.declared.State.{State}
use Rattle.debray_allocator.specs.declared.Answer.{Answer}
use Rattle.debray_allocator.specs.DebrayAllocator.{seen_after, refused_with, acted, unless_refused, stepped}
use Rattle.rules.specs.RulesLaws.{LeastFrom, unused_past, none_unused, least_free_exactly, least_apart_exactly, in_use_parts}
use Rattle.rules.specs.RulesLaws.{least_outside_exactly, popped-free, popped-nothing, searched-chosen, stored_elsewhere, not-in_place, pending_slot-zero}
use Rattle.rules.specs.CutLaws.{cut_keeps, cut_none-pending, cut_no_more}
use Rattle.rules.specs.QueueLaws.{found_owned, found_some, given_to, taken-from}
use Rattle.rules.specs.LineLaws.{line-either_way, line_in_use, line-counts, line_frees, line_leaves}

-- v has no use of r
abbrev pub DoesNotUse : VariableSets → ℕ → ℕ → Type 0
DoesNotUse s v r = (code : ℕ) → code ∈ uses_of s.use_sets s.use_counts v → r ≡ register_of code → ⊥

module _
    (c : Counters) (records : List ℕ) (before : VariableSets) (held : c.records ≤ variables)
    (sized : (u : ℕ) → Temporary c records u → chunk_in c records u ≤ chunks) (v r : ℕ) (temporary : Temporary c records v)
    (inside : r ≤ registers) where
  -- ---- Rule 7.2: what `sets` adds to a no_use_lem set

  pub no_use-set_exactly :
      length before.no_use ≡ variables
      → (has (set_at (populated c records before).no_use v) r ≡ true)
      ↔ ((has (set_at before.no_use v) r ≡ true)
      ⊎ ((u : ℕ)
      × (Temporary c records u × (u ≢ v)
      × (use_code (last_context (chunk_in c records v)) r ∈ uses_of before.use_sets before.use_counts u)
      × ((u < v) ⊎ DoesNotUse before v r))))
  no_use-set_exactly = no_use_of_records c records held sized before v r temporary inside

  -- ---- Rule 7.3: what `sets` makes of a conflict set

  pub conflict_set_exactly :
      length before.conflict ≡ variables
      → (has (set_at (populated c records before).conflict v) r ≡ true)
      ↔ ((1 ≤ r) × (r < length (uses_of before.use_sets before.use_counts v)) × DoesNotUse before v r)
  conflict_set_exactly = conflict_of_records c records held sized before v r temporary inside

-- ---- Rules 8.2 and 8.3: the choice for a variable

module _ (c : Counters) (s : VariableSets) (v : ℕ) where
  -- the entries before it are in use; the no_use_lem set and the conflict set may be any
  pub use_set_register_wins :
      (passed rest : List ℕ) (code : ℕ) → uses_of s.use_sets s.use_counts v ≡ passed ++ (code ∷ rest)
      → ((other : ℕ) → other ∈ passed → in_use c (register_of other) ≡ true) → in_use c (register_of code) ≡ false
      → (alloc_with_cr c s v ≡ Some (register_of code))
      × (alloc_with_ca c s v ≡ Some (register_of code))
  use_set_register_wins passed rest code e taken unused =
      let won = unused_past c (uses_of s.use_sets s.use_counts v) passed rest code e taken unused in (
        use_set_wins c (uses_of s.use_sets s.use_counts v) (set_at s.no_use v) (register_of code) won,
        use_set_wins c (uses_of s.use_sets s.use_counts v) (union (set_at s.no_use v) (set_at s.conflict v)) (register_of code) won,
      )

  -- every register of the use set is in use
  module _ (taken : (code : ℕ) → code ∈ uses_of s.use_sets s.use_counts v → in_use c (register_of code) ≡ true) (r : ℕ) where
    pub otherwise_least_not_in_no_use :
        (alloc_with_cr c s v ≡ Some r)
        ↔ LeastFrom c.temp_lb (λ q. (in_use c q ≡ false) × (has (set_at s.no_use v) q ≡ false)) r
    otherwise_least_not_in_no_use =
        rw (otherwise_least c (uses_of s.use_sets s.use_counts v) (set_at s.no_use v) (none_unused c (uses_of s.use_sets s.use_counts v) taken))
        (least_free_exactly c (set_at s.no_use v) r)

    pub otherwise_least_nor_in_conflict :
        (alloc_with_ca c s v ≡ Some r)
        ↔ LeastFrom c.temp_lb (λ q. (in_use c q ≡ false) × (has (set_at s.no_use v) q ≡ false) × (has (set_at s.conflict v) q ≡ false)) r
    otherwise_least_nor_in_conflict =
        rw (otherwise_least c (uses_of s.use_sets s.use_counts v) (union (set_at s.no_use v) (set_at s.conflict v)) (none_unused c (uses_of s.use_sets s.use_counts v) taken))
        (least_apart_exactly c (set_at s.no_use v) (set_at s.conflict v) r)

-- ---- Rules 8.1, 8.5 and 12.10: what is in use, and what the choice for another term looks at

module _ (c : Counters) (r : ℕ) where
  pub in_use_exactly : (in_use c r ≡ true) ↔ (((c.arg_c ≤ r) × (r ≤ c.arity)) ⊎ (has c.in_use r ≡ true))
  in_use_exactly = in_use_parts c r

-- rule 12.10: the number of a slot in which a variable was marked is in the set from then on
module _ (s : State) (target : Target) (level : Level) (context : GenContext) (v : ℕ) (list : List ℕ) where
  pub set_receives_slot_numbers :
      let after = stepped s (Var target level context v) list in
      length s.records ≡ variables * row_cells
      → v < variables
      → after.refusal ≡ None
      → (slot : ℕ) → slot ≤ registers → after.at ≡ Some (PermSlot slot)
      → has after.state.counters.in_use slot ≡ true
  set_receives_slot_numbers size inside accepted slot register at =
      line_in_use s size target level context v inside list accepted (PermSlot slot) register at

module _ (c : Counters) (r : ℕ) where
  -- rule 8.5: where no freed register is given, the least from `temp_lb` up that is not in the set, whatever the arguments
  pub non_variable_search_tests_the_set :
      (list : List ℕ) → (popped c list c.freed_registers).chosen ≡ None
      → ((non_var c list).chosen ≡ Some r) ↔ LeastFrom c.temp_lb (λ q. has c.in_use q ≡ false) r
  unfolding non_var
  non_variable_search_tests_the_set list none =
      rw (none, searched-chosen c (least_outside c)) (least_outside_exactly c r)

  -- rule 8.5: a freed register that is given is neither between `arg_c` and `arity` nor in the set
  pub free-list_tests_both :
      (list : List ℕ) → (popped c list c.freed_registers).chosen ≡ Some r
      → ((non_var c list).chosen ≡ Some r) × (c.arg_c ≤ r → r ≤ c.arity → ⊥) × (has c.in_use r ≡ false)
  unfolding non_var
  free-list_tests_both list given =
      let free = popped-free c list c.freed_registers r given in (
        simp given,
        λ low high. false≢true (sym free ∙ (in_use_parts c r).1 (inl (low, high))),
        refuted (has c.in_use r) (λ member. false≢true (sym free ∙ (in_use_parts c r).1 (inr member))),
      )

  -- and where none is given, each is the one or the other
  pub free-list_tests_no_more :
      (list : List ℕ) → (popped c list c.freed_registers).chosen ≡ None
      → (i : ℕ) → i < c.freed_registers → in_use c (get_or list (i % freed_registers) 0) ≡ true
  free-list_tests_no_more list nothing = popped-nothing c list c.freed_registers nothing

-- ---- Rule 12.4: a new temporary outside the head

-- a new temporary has register 0 in its record; the argument counter begins at 1
module _ (context at : GenContext) (safety : VarSafetyStatus) (to_perm : ℕ) (outside : context ≢ Head) where
  pub new_temporary_never_in_place :
      (variable : VariableRecord) → variable.allocation ≡ Temp at 0 safety to_perm
      → (r k : ℕ) → 1 ≤ k → in_place variable context (TempRegister r) k ≡ false
  new_temporary_never_in_place variable new r k positive =
      not-in_place context outside variable r k (rw new (stored_elsewhere at safety to_perm r k positive))

  -- so its instruction is made, and its record's register is 0 still
  pub new_temporary-instructed :
      (c : Counters) (records mappings : List ℕ) (target : Target) (level : Level) (v r : ℕ) (branch : Branch) (code : CodeDeque)
      → (record_at records v).allocation ≡ Temp at 0 safety to_perm
      → 1 ≤ c.arg_c
      → argument_made c records mappings target level context v (TempRegister r) true branch code
      ≡ step
      (record_put records v (allocated (record_at records v) (Temp at 0 GloballyUnneeded to_perm)))
      (going_on c (pushed code (argument_to_variable target (TempRegister r) c.arg_c)))
  unfolding argument_made safe_made instructed_after
  new_temporary-instructed c records mappings target level v r branch code new positive =
      simp (new_temporary_never_in_place (record_at records v) new r c.arg_c positive, new)

-- ---- Rules 12.10 and 13.6: `var` counts its variable or frees it; `cut` counts and frees nothing

module _
    (s : State) (size : length s.records ≡ variables * row_cells) (target : Target) (level : Level) (context : GenContext) (v : ℕ)
    (inside : v < variables) (list : List ℕ) (accepted : (stepped s (Var target level context v) list).refusal ≡ None) where
  pub var_mark-counts :
      let after = (stepped s (Var target level context v) list).state in
      (record_at s.records v).running_count < (record_at s.records v).num_occurrences
      → ((record_at after.records v).running_count ≡ (record_at s.records v).running_count + 1)
      × (after.freed_slots ≡ s.freed_slots)
  var_mark-counts below = line-counts s size target level context v inside list accepted below

  -- it is Pending, and the last entry of the queue
  pub var_mark-otherwise_frees :
      let after = (stepped s (Var target level context v) list).state in
      (record_at s.records v).num_occurrences ≤ (record_at s.records v).running_count
      → is_temporary s.records v ≡ false
      → length s.freed_slots ≡ freed_slots * entry_cells
      → ((record_at after.records v).running_count ≡ (record_at s.records v).running_count)
      × ((slot : ℕ) × ((record_at after.records v).allocation ≡ Perm slot Pending))
      × ((older : List FreedSlot)
      × (entries after.freed_slots after.counters.first_freed_slot 0 after.counters.freed_slots
      ≡ older ++ (record { chunk = chunk_num context; variable = v } ∷ [])))
  var_mark-otherwise_frees all permanent queue = line_frees s size target level context v inside list accepted all permanent queue

  -- a temporary has no slot to free
  pub var_mark_leaves_a_temporary :
      let after = (stepped s (Var target level context v) list).state in
      (record_at s.records v).num_occurrences ≤ (record_at s.records v).running_count
      → is_temporary s.records v ≡ true
      → ((record_at after.records v).running_count ≡ (record_at s.records v).running_count)
      × (after.freed_slots ≡ s.freed_slots)
  var_mark_leaves_a_temporary all temporary = line_leaves s size target level context v inside list accepted all temporary

module _ (s : State) (size : length s.records ≡ variables * row_cells) (v chunk : ℕ) (inside : v < variables) (list : List ℕ) where
  -- every variable's count is what it was
  pub cut_counts-nothing :
      let after = (stepped s (Cut v chunk) list).state in
      (u : ℕ) → u < variables → (record_at after.records u).running_count ≡ (record_at s.records u).running_count
  unfolding refused_with
  cut_counts-nothing =
      line-either_way s (Cut v chunk) list
      (λ (a : Answer). (u : ℕ) → u < variables → (record_at a.state.records u).running_count ≡ (record_at s.records u).running_count)
      (λ refusal u h. refl)
      (cut_keeps s.records size v inside s.counters s.freed_slots s.freed_registers chunk).running

  -- who is Pending was so before
  pub cut_makes_none-pending :
      let after = (stepped s (Cut v chunk) list).state in
      (u slot : ℕ) → u < variables → (record_at after.records u).allocation ≡ Perm slot Pending
      → (was : ℕ) × ((record_at s.records u).allocation ≡ Perm was Pending)
  unfolding refused_with
  cut_makes_none-pending =
      line-either_way s (Cut v chunk) list
      (λ (a : Answer). (u slot : ℕ) → u < variables → (record_at a.state.records u).allocation ≡ Perm slot Pending → (was : ℕ) × ((record_at s.records u).allocation ≡ Perm was Pending))
      (λ refusal u slot h e. (slot, e))
      (cut_none-pending s.records size v s.counters s.freed_slots s.freed_registers chunk)

  -- the queue is as it was, or has lost entries
  pub cut_queues_nothing :
      let after = (stepped s (Cut v chunk) list).state in
      (after.freed_slots ≡ s.freed_slots) × (after.counters.freed_slots ≤ s.counters.freed_slots)
  unfolding refused_with seen_after
  cut_queues_nothing =
      line-either_way s (Cut v chunk) list
      (λ (a : Answer). (a.state.freed_slots ≡ s.freed_slots) × (a.state.counters.freed_slots ≤ s.counters.freed_slots))
      (λ refusal. (refl, omega arith))
      (refl, cut_no_more s.counters s.records s.freed_slots s.freed_registers v chunk)

-- ---- Rules 10.1, 10.2 and 10.4: the queue of freed slots

module _ (records : List ℕ) (chunk dropped : ℕ) (front : FreedSlot) (behind : List FreedSlot) where
  pub front_given_to_a_later_chunk :
      front.chunk < chunk
      → (slot : ℕ) → (record_at records front.variable).allocation ≡ Perm slot Pending → 0 < slot
      → looked records chunk dropped (front ∷ behind)
      ≡ gives (dropped + 1) slot front.variable
  unfolding free_slot
  front_given_to_a_later_chunk later slot pending positive =
      looked-taken records chunk dropped front behind later slot (ap pending_slot pending ∙ simp (lt-ltb 0 slot positive))

  -- not to its own chunk, nor to an earlier one: then no entry is looked at
  pub nothing_given_before_a_later_chunk : chunk ≤ front.chunk → looked records chunk dropped (front ∷ behind) ≡ none dropped
  nothing_given_before_a_later_chunk early = looked_late records chunk dropped front behind early

  pub other_old_entry_dropped :
      front.chunk < chunk
      → ((slot : ℕ) → (record_at records front.variable).allocation ≡ Perm slot Pending → 0 < slot → ⊥)
      → looked records chunk dropped (front ∷ behind) ≡ looked records chunk (dropped + 1) behind
  unfolding free_slot
  other_old_entry_dropped later other =
      looked_dropped records chunk dropped front behind later (pending_slot-zero (record_at records front.variable).allocation other)

-- a variable without a slot takes the one that was found: it is its own, and the old owner has none
module _
    (c : Counters) (records list : List ℕ) (size : length records ≡ variables * row_cells) (v chunk : ℕ) (held : PermVarAllocation)
    (inside : v < variables) (slotless : (record_at records v).allocation ≡ Perm 0 held) where
  pub slot_taken-from_its_owner :
      let found = looked records chunk 0 (entries list c.first_freed_slot 0 c.freed_slots) in
      let after = perm_placed c records list v chunk in
      (taken : Taken) → found.taken ≡ Some taken
      → taken.owner < variables
      → (after.placed ≡ placed_in (without_front c found.dropped) taken.slot)
      × ((record_at after.records v).allocation ≡ Perm taken.slot (Done Needed Needed))
      × ((record_at after.records taken.owner).allocation ≡ Perm 0 Pending)
  unfolding perm_placed
  slot_taken-from_its_owner slot given owned =
      let found = looked records chunk 0 (entries list c.first_freed_slot 0 c.freed_slots) in
      let pending = rw given at (found_owned records chunk 0 (entries list c.first_freed_slot 0 c.freed_slots)) in
      let taken = found_some found c records v slot given in (
        ap (λ (p : Placement). p.placed) taken,
        ap (λ (p : Placement). (record_at p.records v).allocation) taken
            ∙ given_to found c records v slot given pending.0 size held inside owned slotless pending.1,
        ap (λ (p : Placement). (record_at p.records slot.owner).allocation) taken
            ∙ taken-from found c records v slot given pending.0 size held inside owned slotless pending.1,
      )

-- ---- Rule 12.5: a permanent variable as a new argument of the head

module _ (slot : ℕ) (shallow deep : VarSafetyStatus) (branch : Branch) where
  pub head_makes_only_shallow_safety_unneeded :
      (variable : VariableRecord) → variable.allocation ≡ Perm slot (Done shallow deep)
      → marked_safe variable Shallow Head branch ≡ Some (Safe (allocated variable (Perm slot (Done GloballyUnneeded deep))))
  head_makes_only_shallow_safety_unneeded variable done = simp done

  -- with its instruction
  pub head_get-variable :
      (c : Counters) (records mappings : List ℕ) (v : ℕ) (code : CodeDeque)
      → (record_at records v).allocation ≡ Perm slot (Done shallow deep)
      → argument_made c records mappings Fact Shallow Head v (PermSlot slot) true branch code
      ≡ step
      (record_put records v (allocated (record_at records v) (Perm slot (Done GloballyUnneeded deep))))
      (going_on c (pushed code (GetVariable (PermSlot slot) c.arg_c)))
  unfolding argument_made safe_made instructed_after
  head_get-variable c records mappings v code done = simp done

-- ---- Rule 14.8: what `reset` leaves as it is

module _ (s : State) (list : List ℕ) where
  pub reset_clears_neither :
      let after = (stepped s Reset list).state in
      -- the queue of freed slots
      (after.freed_slots ≡ s.freed_slots)
      × (after.counters.first_freed_slot ≡ s.counters.first_freed_slot)
      × (after.counters.freed_slots ≡ s.counters.freed_slots)
      × (after.counters.arg_c ≡ s.counters.arg_c)
      × (after.counters.temp_lb ≡ s.counters.temp_lb)
      × (after.counters.arity ≡ s.counters.arity)
      -- the branches
      × (after.branches.rows ≡ s.branches.rows)
      × (after.branches.sets ≡ s.branches.sets)
      × (after.counters.open_branches ≡ s.counters.open_branches)
  unfolding stepped unless_refused acted refusal_before refusal_by_size seen_after whole_reset contents_reset
  reset_clears_neither = (refl, refl, refl, refl, refl, refl, refl, refl, refl)

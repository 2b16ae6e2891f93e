-- A valid state stays valid after the events that only set numbers.
use Rattle.std.specs.Prelude.{ℕ, suc, ◌+◌, ◌-◌, ◌≤◌, ◌<◌, ◌≡◌, ◌⊎◌, Bool, leb, length, Option, Some, None}
use Rattle.std.proofs.Common.{inr}
use Rattle.std.proofs.Math.Logic.{⊎_elim}
use Rattle.std.proofs.Math.Bool.{true}
use Rattle.std.proofs.lemmas.Bool.{false≢true}
use mathlib.Core.List.{List, [], ◌∷◌}
use native.Mathlib.Omega.{arith}
use Rattle.std.proofs.Math.ListN.{length-take}
use borrow.Author.Tests.{leb-false}
use Rattle.notation.specs.ChoiceLaws.{by_test}
use Rattle.sizes.specs.Sizes.{variables, registers, counts, freed_registers}
use Rattle.bit_set.specs.BitSet.{empty_set, removed}
use Rattle.bit_set.specs.BitSetLaws.{has-empty}
use Rattle.variable_records.specs.declared.VariableRecord.{VariableRecord}
use Rattle.variable_records.specs.declared.VarAlloc.{VarAlloc}
use Rattle.variable_records.specs.declared.VarAlloc.TheVariants.{Temp, Perm}
use Rattle.variable_records.specs.Records.{place_of_alloc}
use Rattle.variable_records.specs.Rows.{record_at}
use Rattle.branch_stack.specs.BranchStack.{current_branch}
use Rattle.allocator_state.specs.declared.Counters.{Counters}
use Rattle.allocator_state.specs.State.{counter_after}
use Rattle.freeing.specs.Freeing.{Release}
use Rattle.record_marks.specs.RecordMarks.{marked_unconditionally}
use Rattle.resets.specs.Resets.{arg_reset, head_arguments, Heading, heading, has_no_register, awaits_register, argument_placed, arguments_placed, head_begun, head_reset}
use Rattle.resets.specs.Resets.{Clearing, arg_advanced, contents_reset, whole_reset, free_list_reset, register_freed, Answer, running_incremented, safe_marked_as, safe_marked}
use Rattle.invariants.specs.Lists.{All, all_take}
use Rattle.valid_stays.specs.Fits.{Kinds, Placed, Counter, AllocFits, Temporary, Valid}
use Rattle.valid_stays.proofs.RecordsFit.{record_fits}
use Rattle.valid_stays.proofs.TablesFit.{counter_after_lem, removed_usable, none_mapped}
use Rattle.valid_stays.proofs.Steps.{put_valid, placed_valid, mapped_valid, with_mappings, argument_valid, search_valid, slot_valid, arity_valid, in_use_valid, used_valid, fewer_valid, more_valid}
use Rattle.valid_stays.proofs.OfAllocation.{running_valid}
use Rattle.valid_stays.proofs.OfRecordMarks.{MadeFits, unconditionally_fits}

module _ (k : Kinds) (queue freed rows sets : List ℕ) where
  abbrev pub HeadingValid : Heading → Type 0
  HeadingValid t = Valid k t.counters t.records t.mappings queue freed rows sets

module _ (k : Kinds) (records queue freed rows sets : List ℕ) where
  abbrev pub ClearingValid : Clearing → Type 0
  ClearingValid t = Valid k t.counters records t.mappings queue freed rows sets

module _ (k : Kinds) (records mappings queue rows sets : List ℕ) where
  abbrev pub FreedValid : Release → Type 0
  FreedValid t = Valid k t.released.counters records mappings queue t.list rows sets

module _ (k : Kinds) (c : Counters) (mappings queue freed rows sets : List ℕ) where
  abbrev pub AnswerValid : Answer → Type 0
  AnswerValid t = Valid k c t.records mappings queue freed rows sets

-- a head's argument: a variable, or a number past the last
abbrev pub Argument : Kinds → ℕ → Type 0
Argument k v = (variables ≤ v) ⊎ (v < k.count)

-- ---- `head`: argument n is given register n, one up to 63

one : Counter 1
one = record { some = omega arith; last = omega arith }

module _ (k : Kinds) where
  awaits_temporary :
      (v : ℕ) (allocation : VarAlloc) → AllocFits k v allocation → has_no_register (place_of_alloc allocation) ≡ true
      → k.temporary v ≡ true
  awaits_temporary v (Temp context register safety to_perm) a e = a.0
  awaits_temporary v (Perm slot allocation) a e = absurd (false≢true e)

  module _ {c : Counters} {records mappings queue freed rows sets : List ℕ} (h : Valid k c records mappings queue freed rows sets) where
    awaiting : (v : ℕ) → Argument k v → awaits_register records v ≡ true → Temporary k v
    unfolding awaits_register
    awaiting v argument =
        by_test (λ (t : Bool). t ≡ true → Temporary k v) (leb variables v) (λ e t. absurd (false≢true t))
        (λ e t. (let known : v < k.count = ⊎_elim (λ past. absurd (omega (arith, leb-false variables v e))) (λ there. there) argument in
        (known, awaits_temporary v (record_at records v).allocation (record_fits k h.recorded v known).alloc t)))

    pub args_valid : (count : ℕ) → Valid k (arg_reset c count) records mappings queue freed rows sets
    args_valid count =
        search_valid k (argument_valid k (arity_valid k h 0 (omega arith)) 1 one) (counter_after count) (counter_after_lem count)

    begun_valid : (count : ℕ) → count ≤ registers → Valid k (head_begun c count) records mappings queue freed rows sets
    begun_valid count small = arity_valid k (args_valid count) count small

  module _ {queue freed rows sets : List ℕ} where
    argument_placed_valid :
        (t : Heading) → HeadingValid k queue freed rows sets t → (n v : ℕ) → Placed n → Argument k v
        → HeadingValid k queue freed rows sets (argument_placed t n v)
    unfolding argument_placed
    argument_placed_valid t h n v placed argument =
        by_test (HeadingValid k queue freed rows sets) (awaits_register t.records v)
        (λ e. (let temporary = awaiting h v argument e in
        used_valid k (mapped_valid k (placed_valid k h v temporary.0 n placed.last) n v (inr temporary)) n placed.some))
        (λ e. h)

    arguments_placed_valid :
        (t : Heading) → HeadingValid k queue freed rows sets t
        → (n : ℕ) (vs : List ℕ) → 1 ≤ n → length vs ≤ suc registers - n → All (Argument k) vs
        → HeadingValid k queue freed rows sets (arguments_placed t n vs)
    unfolding arguments_placed
    arguments_placed_valid t h n [] some fits all = h
    arguments_placed_valid t h n (v ∷ vs) some fits all =
        arguments_placed_valid (argument_placed t n v)
        (argument_placed_valid t h n v (record { some = some; last = omega arith }) all.0) (n + 1) vs (omega arith) (omega arith) all.1

  module _ {c : Counters} {records mappings queue freed rows sets : List ℕ} (h : Valid k c records mappings queue freed rows sets) where
    pub head_valid :
        (arguments : List ℕ) → All (Argument k) arguments → HeadingValid k queue freed rows sets (head_reset c records mappings arguments)
    unfolding head_reset
    head_valid arguments all =
        arguments_placed_valid (heading records mappings (head_begun c (length (head_arguments arguments))))
        (begun_valid h (length (head_arguments arguments)) (omega (arith, length-take registers arguments))) 1 (head_arguments arguments)
        (omega arith) (omega (arith, length-take registers arguments)) (all_take (Argument k) registers arguments all)

    -- ---- `next`

    pub next_valid : Valid k (arg_advanced c) records mappings queue freed rows sets
    next_valid = argument_valid k h (counter_after c.arg_c) (counter_after_lem c.arg_c)

    -- ---- `reset`, `contents` and `clearfree`

    pub clear_valid : Valid k (free_list_reset c) records mappings queue freed rows sets
    clear_valid = fewer_valid k h 0 (omega arith)

    pub contents_valid : ClearingValid k records queue freed rows sets (contents_reset c)
    unfolding contents_reset
    contents_valid = with_mappings k (fewer_valid k (in_use_valid k h empty_set (has-empty 0)) 0 (omega arith)) (none_mapped k)

    pub reset_valid : ClearingValid k records queue freed rows sets (whole_reset c)
    unfolding whole_reset
    reset_valid = slot_valid k contents_valid 1 one

    -- ---- `give`

    pub give_valid : (r : ℕ) → Placed r → FreedValid k records mappings queue rows sets (register_freed c freed r)
    unfolding register_freed
    give_valid r placed =
        by_test (FreedValid k records mappings queue rows sets) (leb freed_registers c.freed_registers) (λ e. h)
        (λ e. more_valid k (in_use_valid k h (removed c.in_use r) (removed_usable c.in_use r h.counted.usable)) r placed
        (leb-false freed_registers c.freed_registers e))

    -- ---- `incr` and `safe`

    module _ (v : ℕ) (known : v < k.count) where
      pub incremented_valid : AnswerValid k c mappings queue freed rows sets (running_incremented records v)
      unfolding running_incremented
      incremented_valid =
          let running = (record_at records v).running_count in
          by_test (AnswerValid k c mappings queue freed rows sets) (leb counts running) (λ e. h)
          (λ e. running_valid k v known h (running + 1) (omega (arith, leb-false counts running e)))

      safe_as_valid : (marked : Option VariableRecord) → MadeFits k v marked → AnswerValid k c mappings queue freed rows sets (safe_marked_as marked records v)
      safe_as_valid (Some variable) fits = put_valid k h v known variable fits
      safe_as_valid None fits = h

      pub safe_valid : AnswerValid k c mappings queue freed rows sets (safe_marked records rows c.open_branches v)
      unfolding safe_marked
      safe_valid =
          safe_as_valid (marked_unconditionally (record_at records v) (current_branch rows c.open_branches))
          (unconditionally_fits k v (record_at records v) (record_fits k h.recorded v known) (current_branch rows c.open_branches))

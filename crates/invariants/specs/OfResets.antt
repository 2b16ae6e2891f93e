-- Every record stays of its kind, in a good place, after `head`, `incr` and `safe`.
use Rattle.std.specs.Prelude.{ℕ, suc, ◌+◌, ◌-◌, ◌%◌, ◌≤◌, leb, length, Option, Some, None}
use mathlib.Core.List.{List, [], ◌∷◌}
use Rattle.std.proofs.Common.{arith}
use Rattle.std.proofs.Math.ListN.{length-take}
use Rattle.notation.specs.ChoiceLaws.{either}
use Rattle.sizes.specs.Sizes.{variables, registers, counts}
use Rattle.variable_records.specs.declared.VariableRecord.{VariableRecord}
use Rattle.variable_records.specs.Rows.{record_at}
use Rattle.branch_stack.specs.BranchStack.{current_branch}
use Rattle.allocator_state.specs.declared.Counters.{Counters}
use Rattle.freeing.specs.Freeing.{running_at}
use Rattle.record_marks.specs.RecordMarks.{marked_unconditionally}
use Rattle.resets.specs.Resets.{head_arguments, Heading, heading, awaits_register, argument_placed, arguments_placed, head_begun, head_reset}
use Rattle.resets.specs.Resets.{Answer, running_incremented, safe_marked_as, safe_marked}
use Rattle.invariants.specs.Kept.{Wanted, Kept, kept_at, kept_put, kept_placed}
use Rattle.invariants.specs.OfRecordMarks.{HoldsMade, unconditionally_holds}

module _ (k : Wanted) where
  -- ---- `head`: argument n is given register n, one up to 63

  abbrev pub KeptHeading : Heading → Type 0
  KeptHeading h = Kept k h.records

  argument_placed_keeps : (h : Heading) → KeptHeading h → (n v : ℕ) → n ≤ registers → KeptHeading (argument_placed h n v)
  unfolding argument_placed
  argument_placed_keeps h every n v small =
      either KeptHeading (awaits_register h.records v) (kept_placed k every v n (k.small n small)) every

  arguments_placed_keeps :
      (h : Heading) → KeptHeading h → (n : ℕ) (vs : List ℕ) → length vs ≤ suc registers - n
      → KeptHeading (arguments_placed h n vs)
  unfolding arguments_placed
  arguments_placed_keeps h every n [] fits = every
  arguments_placed_keeps h every n (v ∷ vs) fits =
      arguments_placed_keeps (argument_placed h n v) (argument_placed_keeps h every n v (omega arith)) (n + 1) vs (omega arith)

  module _ {records : List ℕ} (every : Kept k records) where
    pub head_reset_keeps : (c : Counters) (mappings arguments : List ℕ) → KeptHeading (head_reset c records mappings arguments)
    unfolding head_reset
    head_reset_keeps c mappings arguments =
        arguments_placed_keeps (heading records mappings (head_begun c (length (head_arguments arguments)))) every 1 (head_arguments arguments)
        (omega (arith, length-take registers arguments))

    -- ---- `incr` and `safe`

    abbrev KeptAnswer : Answer → Type 0
    KeptAnswer a = Kept k a.records

    pub incremented_keeps : (v : ℕ) → KeptAnswer (running_incremented records v)
    unfolding running_incremented
    incremented_keeps v =
        either KeptAnswer (leb counts (record_at records v).running_count) every
        (kept_put k every v (running_at (record_at records v) ((record_at records v).running_count + 1)) (kept_at k every v))

    safe_as_keeps : (v : ℕ) (marked : Option VariableRecord) → HoldsMade k (v % variables) marked → KeptAnswer (safe_marked_as marked records v)
    safe_as_keeps v (Some variable) h = kept_put k every v variable h
    safe_as_keeps v None h = every

    pub safe_keeps : (rows : List ℕ) (opened v : ℕ) → KeptAnswer (safe_marked records rows opened v)
    unfolding safe_marked
    safe_keeps rows opened v =
        safe_as_keeps v (marked_unconditionally (record_at records v) (current_branch rows opened))
        (unconditionally_holds k (v % variables) (record_at records v) (kept_at k every v) (current_branch rows opened))

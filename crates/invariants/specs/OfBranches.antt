-- Every record stays of its kind, in a good place, after `take` and `close`.
use Rattle.std.specs.Prelude.{ℕ, ◌%◌, List, leb}
use Rattle.notation.specs.ChoiceLaws.{either}
use Rattle.sizes.specs.Sizes.{variables}
use Rattle.refusals.specs.Refusals.{is_refused}
use Rattle.variable_records.specs.declared.VarAlloc.{VarAlloc}
use Rattle.variable_records.specs.declared.VarAlloc.TheVariants.{Temp, Perm}
use Rattle.variable_records.specs.Records.{allocated}
use Rattle.variable_records.specs.Rows.{record_at}
use Rattle.branch_stack.specs.declared.BranchOccurrences.{BranchOccurrences}
use Rattle.branches.specs.Branches.{close_refusal, take_refusal, allocation_met, variable_closed, popped, left_on_top, records_popped}
use Rattle.branches.specs.Branches.{allocation_pending, variable_pended, to_take, taken, records_taken}
use Rattle.allocator_state.specs.declared.Counters.{Counters}
use Rattle.branch_events.specs.BranchEvents.{stock_taken, closed}
use Rattle.invariants.specs.Lists.{all_plain, each_keeps}
use Rattle.invariants.specs.Kept.{Wanted, Holds, Kept, kept_at, kept_put}

-- nothing is asked of the variables of a list
abbrev Any : ℕ → Type 0
Any v = Unit {0}

module _ (k : Wanted) where
  -- ---- `close`

  met_holds :
      (met : BranchOccurrences) (v w : ℕ) (allocation : VarAlloc) → Holds k w allocation
      → Holds k w (allocation_met met v allocation)
  unfolding allocation_met
  met_holds met v w (Temp context register safety to_perm) h = h
  met_holds met v w (Perm slot allocation) h = h

  closed_keeps : (met : BranchOccurrences) (records : List ℕ) (v : ℕ) → Kept k records → Kept k (variable_closed met records v)
  unfolding variable_closed
  closed_keeps met records v every =
      let variable = record_at records v in
      either (Kept k) (leb variable.num_occurrences variable.running_count) every
      (kept_put k every v (allocated variable (allocation_met met v variable.allocation))
      (met_holds met v (v % variables) variable.allocation (kept_at k every v)))

  -- ---- `take`

  pending_holds : (w : ℕ) (allocation : VarAlloc) → Holds k w allocation → Holds k w (allocation_pending allocation)
  unfolding allocation_pending
  pending_holds w (Temp context register safety to_perm) h = h
  pending_holds w (Perm slot allocation) h = h

  pended_keeps : (records : List ℕ) (v : ℕ) → Kept k records → Kept k (variable_pended records v)
  unfolding variable_pended
  pended_keeps records v every =
      let variable = record_at records v in
      kept_put k every v (allocated variable (allocation_pending variable.allocation))
      (pending_holds (v % variables) variable.allocation (kept_at k every v))

  module _ {records : List ℕ} (every : Kept k records) (rows sets : List ℕ) where
    popped_keeps : (opened depth : ℕ) (vs : List ℕ) → Kept k (records_popped records rows sets opened depth vs)
    unfolding records_popped
    popped_keeps opened depth vs =
        let met = left_on_top records rows sets opened depth vs in
        either (Kept k) (is_refused (close_refusal (popped records rows sets opened depth vs)))
        every
        (each_keeps (Kept k) Any (variable_closed met) (λ records v any. closed_keeps met records v) records vs
        (all_plain Any (λ v. tt) vs) every)

    taken_keeps : (opened : ℕ) → Kept k (records_taken records rows sets opened)
    unfolding records_taken
    taken_keeps opened =
        let vs = to_take records rows sets opened in
        either (Kept k) (is_refused (take_refusal (taken records rows sets opened)))
        every
        (each_keeps (Kept k) Any variable_pended (λ records v any. pended_keeps records v) records vs
        (all_plain Any (λ v. tt) vs) every)

    pub close_keeps : (c : Counters) (depth : ℕ) (vs : List ℕ) → Kept k (closed c records rows sets depth vs).records
    unfolding closed
    close_keeps c depth vs = popped_keeps c.open_branches depth vs

    pub take_keeps : (c : Counters) → Kept k (stock_taken c records rows sets).records
    unfolding stock_taken
    take_keeps c = taken_keeps c.open_branches

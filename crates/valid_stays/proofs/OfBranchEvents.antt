-- A valid state stays valid after `open`, `arm`, `take` and `close`.
use Rattle.std.specs.Prelude.{ℕ, ◌+◌, ◌-◌, ◌≤◌, ◌<◌, ◌≡◌, refl, Bool, true, false, ◌||◌, eqb, leb, ltb, Result, ⊤}
use Rattle.std.proofs.Math.Path.{sym}
use Rattle.std.proofs.Common.{◌∙◌, arith}
use Rattle.std.proofs.lemmas.Bool.{false≢true}
use mathlib.Core.List.{List, [], ◌∷◌}
use borrow.Author.Tests.{leb-false}
use Rattle.notation.specs.ChoiceLaws.{either, by_test}
use Rattle.sizes.specs.Sizes.{counts, open_branches}
use Rattle.variable_records.specs.declared.VarAlloc.{VarAlloc}
use Rattle.variable_records.specs.declared.VarAlloc.TheVariants.{Temp, Perm}
use Rattle.variable_records.specs.Records.{allocated}
use Rattle.variable_records.specs.Rows.{record_at, is_temporary}
use Rattle.branch_stack.specs.declared.BranchOccurrences.{BranchOccurrences}
use Rattle.branch_stack.specs.BranchStack.{rows_put, sets_put, branch_opened}
use Rattle.allocator_state.specs.declared.Counters.{Counters}
use Rattle.branches.specs.declared.BranchError.{BranchError}
use Rattle.branches.specs.Lists.{each}
use Rattle.branches.specs.Branches.{open_refusal, arm_refusal, take_refusal, close_refusal, unless_refused, top_of, rows_top, sets_top, opening, rows_opened, sets_opened}
use Rattle.branches.specs.Branches.{next_arm, advanced, rows_advanced, sets_advanced, names_temporary, nowhere_recorded, allocation_met, variable_closed, occurrences_added, popped, left_on_top, records_popped, rows_popped, sets_popped}
use Rattle.branches.specs.Branches.{safety_taken, allocation_pending, variable_pended, to_take, taken, records_taken, rows_taken, sets_taken}
use Rattle.branch_events.specs.BranchEvents.{Stack, BranchStep, branch_from, open_released, opened, armed, stock_taken, close_released, closed}
use Rattle.invariants.specs.Lists.{All, each_keeps}
use Rattle.valid_stays.specs.Fits.{Kinds, AllocFits, Records, Permanent, Valid}
use Rattle.valid_stays.proofs.RecordsFit.{record_fits, records_put}
use Rattle.valid_stays.proofs.Steps.{with_records_lem, with_branches, levels_valid}
use Rattle.valid_stays.proofs.OfBranches.{opened-fits, top_fits, branches_put, top_put, branches_popped, hits_permanent, branches_taken}
use Rattle.valid_stays.proofs.OfRecordMarks.{allocated-fits}

module _ (k : Kinds) (records mappings queue freed : List ℕ) where
  abbrev pub StackValid : Stack → Type 0
  StackValid t = Valid k t.released.counters records mappings queue freed t.rows t.sets

module _ (k : Kinds) (mappings queue freed : List ℕ) where
  abbrev pub BranchValid : BranchStep → Type 0
  BranchValid t = Valid k t.released.counters t.records mappings queue freed t.rows t.sets

-- ---- Records that are closed or taken stock of

module _ (k : Kinds) where
  met-fits :
      (met : BranchOccurrences) (v w : ℕ) (allocation : VarAlloc) → AllocFits k w allocation
      → AllocFits k w (allocation_met met v allocation)
  unfolding allocation_met
  met-fits met v w (Temp context register safety to_perm) a = a
  met-fits met v w (Perm slot allocation) a = a

  closed_records :
      (met : BranchOccurrences) (records : List ℕ) (v : ℕ) → Permanent k v → Records k records
      → Records k (variable_closed met records v)
  unfolding variable_closed
  closed_records met records v permanent every =
      let variable = record_at records v in
      let fits = record_fits k every v permanent.0 in
      either (Records k) (leb variable.num_occurrences variable.running_count) every
      (records_put k every v permanent.0 (allocated variable (allocation_met met v variable.allocation))
      (allocated-fits k v fits (allocation_met met v variable.allocation) (met-fits met v v variable.allocation fits.alloc)))

  pending-fits : (w : ℕ) (allocation : VarAlloc) → AllocFits k w allocation → AllocFits k w (allocation_pending allocation)
  unfolding allocation_pending
  pending-fits w (Temp context register safety to_perm) a = a
  pending-fits w (Perm slot allocation) a = a

  pended_records : (records : List ℕ) (v : ℕ) → Permanent k v → Records k records → Records k (variable_pended records v)
  unfolding variable_pended
  pended_records records v permanent every =
      let variable = record_at records v in
      let fits = record_fits k every v permanent.0 in
      records_put k every v permanent.0 (allocated variable (allocation_pending variable.allocation))
      (allocated-fits k v fits (allocation_pending variable.allocation) (pending-fits v variable.allocation fits.alloc))

  -- ---- The variables of `close`, if none is a temporary

  neither : (a b : Bool) → (a || b) ≡ false → (a ≡ false) × (b ≡ false)
  neither true b e = absurd (false≢true (sym e))
  neither false b e = (refl, e)

  none-temporary :
      {records : List ℕ} → Records k records → (vs : List ℕ) → All (λ v. v < k.count) vs → names_temporary records vs ≡ false
      → All (Permanent k) vs
  unfolding names_temporary
  none-temporary every [] known e = tt
  none-temporary {records} every (v ∷ vs) known e =
      let b = neither (is_temporary records v) (names_temporary records vs) e in
      ((known.0, sym (every.kind v known.0) ∙ b.0), none-temporary every vs known.1 b.1)

module _ (k : Kinds) {c : Counters} {records mappings queue freed rows sets : List ℕ} (h : Valid k c records mappings queue freed rows sets) where
  pub open_valid : (start span arms : ℕ) → arms ≤ counts → StackValid k records mappings queue freed (opened c rows sets start span arms)
  unfolding opened rows_opened sets_opened opening
  open_valid start span arms small =
      let level = c.open_branches in
      let branch = branch_opened (branch_from start span) arms in
      by_test
      (λ (o : Result ℕ BranchError).
      Valid k (open_released c o).counters records mappings queue freed
      (unless_refused (open_refusal o) rows (rows_put rows level branch))
      (unless_refused (open_refusal o) sets (sets_put sets level branch)))
      (leb open_branches level) (λ e. h)
      (λ e. (let room = leb-false open_branches level e in
      levels_valid k h (level + 1) (omega arith)
      (branches_put k h.opened level room branch (opened-fits k (branch_from start span) arms small) (level + 1) (omega arith)
      (λ other l differ. omega arith))))

  pub arm_valid : (start span : ℕ) → StackValid k records mappings queue freed (armed c rows sets start span)
  unfolding armed rows_advanced sets_advanced advanced
  arm_valid start span =
      let level = c.open_branches in
      let top = top_of rows sets level in
      let t = top_fits k h.opened in
      let branch = next_arm top (branch_from start span) in
      let After : Result ⊤ BranchError → Type 0 = λ a.
      Valid k c records mappings queue freed
      (unless_refused (arm_refusal a) rows (rows_top rows level branch))
      (unless_refused (arm_refusal a) sets (sets_top sets level branch)) in
      either After (eqb level 0) h
      (by_test After (leb counts top.current_branch_idx) (λ e. h)
      (λ e. (let below = leb-false counts top.current_branch_idx e in
      with_branches k h
      (top_put k h.opened h.counted.opened branch
      (record { arms = t.arms; arm = omega arith; shallow = t.shallow; deep = t.deep; hits = t.hits })))))

  pub take_valid : BranchValid k mappings queue freed (stock_taken c records rows sets)
  unfolding stock_taken records_taken rows_taken sets_taken taken
  take_valid =
      let level = c.open_branches in
      let vs = to_take records rows sets level in
      let branch = safety_taken records (top_of rows sets level) in
      let After : Result ⊤ BranchError → Type 0 = λ t.
      Valid k c (unless_refused (take_refusal t) records (each variable_pended records vs)) mappings queue freed
      (unless_refused (take_refusal t) rows (rows_top rows level branch))
      (unless_refused (take_refusal t) sets (sets_top sets level branch)) in
      either After (eqb level 0) h
      (either After (names_temporary records vs) h
      (with_branches k
      (with_records_lem k h
      (each_keeps (Records k) (Permanent k) variable_pended (pended_records k) records vs (hits_permanent k h.opened) h.recorded))
      (branches_taken k h.opened h.counted.opened records)))

  pub close_valid :
      (depth : ℕ) (vs : List ℕ) → All (λ v. v < k.count) vs
      → BranchValid k mappings queue freed (closed c records rows sets depth vs)
  unfolding closed records_popped rows_popped sets_popped popped
  close_valid depth vs known =
      let level = c.open_branches in
      let met = left_on_top records rows sets level depth vs in
      let branch = occurrences_added met vs in
      let After : Result ℕ BranchError → Type 0 = λ t.
      Valid k (close_released c t).counters (unless_refused (close_refusal t) records (each (variable_closed met) records vs)) mappings queue freed
      (unless_refused (close_refusal t) rows (rows_top rows (level - depth) branch))
      (unless_refused (close_refusal t) sets (sets_top sets (level - depth) branch)) in
      either After (ltb level depth) h
      (by_test After (names_temporary records vs) (λ e. h)
      (λ e. (let permanent = none-temporary k h.recorded vs known e in
      either After (nowhere_recorded rows sets (level - depth) vs) h
      (levels_valid k
      (with_records_lem k h
      (each_keeps (Records k) (Permanent k) (variable_closed met) (closed_records k met) records vs permanent h.recorded))
      (level - depth) (omega (arith, h.counted.opened))
      (branches_popped k h.opened (level - depth) (omega arith) h.counted.opened vs permanent)))))

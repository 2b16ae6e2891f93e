-- A line that nothing refuses before it is carried out: when it is given 4 and when 7, rules 4.4 and 4.7. Of `var`, which does
-- many things, only what it may be given is stated (Given).
use Rattle.std.specs.Prelude.{ℕ, ◌-◌, ◌≡◌, ◌↔◌, Bool, true, false, ◌||◌, List, eqb, leb, ltb, Option, Result, Ok, Err, ⊤}
use Rattle.std.proofs.Math.Path.{refl}
use Rattle.std.proofs.Common.{sym, ◌∙◌, true≢false}
use Rattle.std.proofs.lemmas.Bool.{false≢true}
use Rattle.std.specs.Prelude.{if◌then◌else◌}
use Rattle.notation.specs.ChoiceLaws.{either, by_test}
use Rattle.refusals.specs.declared.Refusal.{Refusal}
use Rattle.refusals.specs.Refusals.{refused_stop, refused_full, is_refused}
use Rattle.sizes.specs.Sizes.{counts, freed_registers, freed_slots, open_branches}
use Rattle.forms.specs.declared.Branch.{Branch}
use Rattle.variable_records.specs.declared.PermVarAllocation.TheVariants.{Done, Pending}
use Rattle.variable_records.specs.declared.VarAlloc.{VarAlloc}
use Rattle.variable_records.specs.declared.VarAlloc.TheVariants.{Temp, Perm}
use Rattle.variable_records.specs.declared.VariableRecord.{VariableRecord}
use Rattle.variable_records.specs.Rows.{record_at}
use Rattle.branch_stack.specs.BranchStack.{current_branch}
use Rattle.record_marks.specs.RecordMarks.{unconditionally_of}
use Rattle.allocator_state.specs.declared.Counters.{Counters}
use Rattle.freeing.specs.Freeing.{Release, pushed_free, freed_as, freed as freeing}
use Rattle.resets.specs.Resets.{Answer as Counting, register_freed, running_incremented, safe_marked_as, safe_marked}
use Rattle.branches.specs.declared.BranchError.{BranchError}
use Rattle.branches.specs.declared.BranchError.TheVariants.{ArmsFull, TooDeep, PastArms, ClosesTemporary}
use Rattle.branches.specs.Branches.{top_of, past_arms, opening, advanced, arm_refusal, recorded, record_refusal, names_temporary, nowhere_recorded, popped, to_take, taken, take_refusal}
use Rattle.branch_events.specs.BranchEvents.{open_released, opened, armed, stock_taken, close_released, closed}
use Rattle.events.specs.declared.Event.{Event}
use Rattle.events.specs.declared.Event.TheVariants.{Incr, Free, Safe, Give, Open, Arm, Take, Close}
use Rattle.events.specs.Events.{refusal_by_size, refusal_before}
use Rattle.debray_allocator.specs.declared.State.{State}
use Rattle.debray_allocator.specs.declared.Answer.{Answer}
use Rattle.debray_allocator.specs.DebrayAllocator.{carried_out, refused_with, acted, unless_refused, stepped}
use Rattle.refusals_given.specs.CarriedExactly.{no_open_branch, last_arm, level, cannot_close, is_pending, joins_full}

-- ---- What is given is what carrying it out is given

module _ (s : State) (event : Event) (list : List ℕ) (unrefused : is_refused (refusal_before s.counters event list) ≡ false) where
  abbrev Same : Answer → Type 0
  Same a = a.refusal ≡ (carried_out s event list).refusal

  reached : Same (acted s event list)
  unfolding acted
  reached =
      let first = refusal_before s.counters event list in
      by_test Same (is_refused first) (λ e. absurd (true≢false (sym e ∙ unrefused)))
      (λ e. refl)

  carried-told : (stepped s event list).refusal ≡ (carried_out s event list).refusal
  unfolding stepped unless_refused refused_with
  carried-told = either Same (is_refused (acted s event list).refusal) reached reached

  -- so it is given a refusal exactly if carrying it out is
  told_exactly :
      {test : Type 0} (n : Option Refusal) → ((carried_out s event list).refusal ≡ n) ↔ test
      → ((stepped s event list).refusal ≡ n) ↔ test
  told_exactly n exactly = (λ e. exactly.0 (sym carried-told ∙ e), λ t. carried-told ∙ exactly.1 t)

-- of two ends only the first has the refusal
choice_exactly :
    {A : Type 0} (refusal_in : A → Option Refusal) (n : Option Refusal) (test : Bool) {a b : A} → refusal_in a ≡ n → (refusal_in b ≡ n → ⊥)
    → (refusal_in (if test then a else b) ≡ n) ↔ (test ≡ true)
choice_exactly refusal_in n true p q = (λ e. refl, λ e. p)
choice_exactly refusal_in n false p q = (λ e. absurd (q e), λ e. absurd (false≢true e))

-- ---- `arm` and `take`: rules 4.4, 4.7

module _ (s : State) (list : List ℕ) where
  arm-carried : (start span : ℕ) → ((carried_out s (Arm start span) list).refusal ≡ refused_stop) ↔ ((no_open_branch s list) ≡ true)
  unfolding armed advanced
  arm-carried start span =
      choice_exactly arm_refusal refused_stop (no_open_branch s list) refl
      (either (λ (a : Result ⊤ BranchError). arm_refusal a ≡ refused_stop → ⊥) (last_arm s list) (λ e. cc) (λ e. cc))

  pub arm_stops : (start span : ℕ) → ((stepped s (Arm start span) list).refusal ≡ refused_stop) ↔ ((no_open_branch s list) ≡ true)
  unfolding refusal_before refusal_by_size
  arm_stops start span = told_exactly s (Arm start span) list refl refused_stop (arm-carried start span)

  arm_counted : (start span : ℕ) → (no_open_branch s list) ≡ false → ((carried_out s (Arm start span) list).refusal ≡ refused_full) ↔ ((last_arm s list) ≡ true)
  unfolding armed advanced
  arm_counted start span some =
      let within : (arm_refusal (if (last_arm s list) then Err ArmsFull else Ok tt) ≡ refused_full) ↔ ((last_arm s list) ≡ true) =
      choice_exactly arm_refusal refused_full (last_arm s list) refl (λ e. cc) in
      simp (some) within

  pub arm_full : (start span : ℕ) → (no_open_branch s list) ≡ false → ((stepped s (Arm start span) list).refusal ≡ refused_full) ↔ ((last_arm s list) ≡ true)
  unfolding refusal_before refusal_by_size
  arm_full start span some = told_exactly s (Arm start span) list refl refused_full (arm_counted start span some)

  take-carried : ((carried_out s Take list).refusal ≡ refused_stop) ↔ ((no_open_branch s list) ≡ true)
  unfolding stock_taken taken
  take-carried =
      let vs = to_take s.records s.branches.rows s.branches.sets s.counters.open_branches in
      choice_exactly take_refusal refused_stop (no_open_branch s list) refl
      (either (λ (t : Result ⊤ BranchError). take_refusal t ≡ refused_stop → ⊥) (names_temporary s.records vs) (λ e. cc) (λ e. cc))

  pub take_stops : ((stepped s Take list).refusal ≡ refused_stop) ↔ ((no_open_branch s list) ≡ true)
  unfolding refusal_before refusal_by_size
  take_stops = told_exactly s Take list refl refused_stop take-carried

-- ---- `close`: rules 4.4, 15.7

closing :
    (c : Counters) (branches : ℕ) (deeper temporary past : Bool)
    → ((close_released c (if deeper then Err TooDeep else if temporary then Err ClosesTemporary else if past then Err PastArms else Ok branches)).refusal ≡ refused_stop)
    ↔ ((deeper || (temporary || past)) ≡ true)
closing c branches true temporary past = (λ e. refl, λ e. refl)
closing c branches false true past = (λ e. refl, λ e. refl)
closing c branches false false true = (λ e. refl, λ e. refl)
closing c branches false false false = (λ e. absurd cc, λ e. absurd (false≢true e))

module _ (s : State) (depth : ℕ) (list : List ℕ) where
  close-carried : ((carried_out s (Close depth) list).refusal ≡ refused_stop) ↔ ((cannot_close s depth list) ≡ true)
  unfolding closed popped
  close-carried =
      closing s.counters ((level s depth list) - depth) (ltb (level s depth list) depth) (names_temporary s.records list)
      (nowhere_recorded s.branches.rows s.branches.sets ((level s depth list) - depth) list)

  pub close_stops :
      is_refused (refusal_before s.counters (Close depth) list) ≡ false
      → ((stepped s (Close depth) list).refusal ≡ refused_stop) ↔ ((cannot_close s depth list) ≡ true)
  close_stops unrefused = told_exactly s (Close depth) list unrefused refused_stop close-carried

-- ---- An occurrence: rules 4.4, 15.4

pub occurrence_stops :
    (rows sets : List ℕ) (count : ℕ) → eqb count 0 ≡ false
    → (record_refusal (recorded rows sets count) ≡ refused_stop) ↔ (past_arms (top_of rows sets count) ≡ true)
unfolding recorded
occurrence_stops rows sets count some =
    let past = past_arms (top_of rows sets count) in
    let within : (record_refusal (if past then Err PastArms else Ok tt) ≡ refused_stop) ↔ (past ≡ true) =
    choice_exactly record_refusal refused_stop past refl (λ e. cc) in
    simp (some) within

-- ---- `safe`: rule 4.4

safe_as :
    (allocation : VarAlloc) (variable : VariableRecord) (branch : Branch) (records : List ℕ) (v : ℕ)
    → ((safe_marked_as (unconditionally_of allocation variable branch) records v).refusal ≡ refused_stop) ↔ (is_pending allocation ≡ true)
safe_as (Temp context register safety to_perm) variable branch records v = (λ e. absurd cc, λ e. absurd (false≢true e))
safe_as (Perm slot Pending) variable branch records v = (λ e. refl, λ e. refl)
safe_as (Perm slot (Done shallow deep)) variable branch records v = (λ e. absurd cc, λ e. absurd (false≢true e))

module _ (s : State) (v : ℕ) (list : List ℕ) where
  safe_carried : ((carried_out s (Safe v) list).refusal ≡ refused_stop) ↔ (is_pending (record_at s.records v).allocation ≡ true)
  unfolding safe_marked
  safe_carried =
      let variable = record_at s.records v in
      safe_as variable.allocation variable (current_branch s.branches.rows s.counters.open_branches) s.records v

  pub safe_stops :
      is_refused (refusal_before s.counters (Safe v) list) ≡ false
      → ((stepped s (Safe v) list).refusal ≡ refused_stop) ↔ (is_pending (record_at s.records v).allocation ≡ true)
  safe_stops unrefused = told_exactly s (Safe v) list unrefused refused_stop safe_carried

-- ---- `give`, `open`, `incr` and `free`: rule 4.7

module _ (s : State) (list : List ℕ) where
  give_carried : (r : ℕ) → ((carried_out s (Give r) list).refusal ≡ refused_full) ↔ (leb freed_registers s.counters.freed_registers ≡ true)
  unfolding register_freed
  give_carried r =
      choice_exactly (λ (r : Release). r.released.refusal) refused_full (leb freed_registers s.counters.freed_registers) refl
      (λ e. cc)

  pub give_full :
      (r : ℕ) → is_refused (refusal_before s.counters (Give r) list) ≡ false
      → ((stepped s (Give r) list).refusal ≡ refused_full) ↔ (leb freed_registers s.counters.freed_registers ≡ true)
  give_full r unrefused = told_exactly s (Give r) list unrefused refused_full (give_carried r)

  open-carried :
      (start span arms : ℕ)
      → ((carried_out s (Open start span arms) list).refusal ≡ refused_full) ↔ (leb open_branches s.counters.open_branches ≡ true)
  unfolding opened opening
  open-carried start span arms =
      choice_exactly (λ (o : Result ℕ BranchError). (open_released s.counters o).refusal) refused_full (leb open_branches s.counters.open_branches) refl
      (λ e. cc)

  pub open_full :
      (start span arms : ℕ) → is_refused (refusal_before s.counters (Open start span arms) list) ≡ false
      → ((stepped s (Open start span arms) list).refusal ≡ refused_full) ↔ (leb open_branches s.counters.open_branches ≡ true)
  open_full start span arms unrefused =
      told_exactly s (Open start span arms) list unrefused refused_full (open-carried start span arms)

  incr_carried :
      (v : ℕ) → ((carried_out s (Incr v) list).refusal ≡ refused_full) ↔ (leb counts (record_at s.records v).running_count ≡ true)
  unfolding running_incremented
  incr_carried v =
      choice_exactly (λ (a : Counting). a.refusal) refused_full (leb counts (record_at s.records v).running_count) refl (λ e. cc)

  pub incr_full :
      (v : ℕ) → is_refused (refusal_before s.counters (Incr v) list) ≡ false
      → ((stepped s (Incr v) list).refusal ≡ refused_full) ↔ (leb counts (record_at s.records v).running_count ≡ true)
  incr_full v unrefused = told_exactly s (Incr v) list unrefused refused_full (incr_carried v)

freed_as_lem :
    (allocation : VarAlloc) (c : Counters) (records list : List ℕ) (chunk v : ℕ)
    → ((freed_as allocation c records list chunk v).released.refusal ≡ refused_full) ↔ (joins_full c allocation ≡ true)
unfolding pushed_free
freed_as_lem (Temp context register safety to_perm) c records list chunk v = (λ e. absurd cc, λ e. absurd (false≢true e))
freed_as_lem (Perm slot allocation) c records list chunk v =
    choice_exactly (λ (r : Release). r.released.refusal) refused_full (leb freed_slots c.freed_slots) refl (λ e. cc)

module _ (s : State) (chunk v : ℕ) (list : List ℕ) where
  free-carried : ((carried_out s (Free chunk v) list).refusal ≡ refused_full) ↔ (joins_full s.counters (record_at s.records v).allocation ≡ true)
  unfolding freeing
  free-carried = freed_as_lem (record_at s.records v).allocation s.counters s.records s.freed_slots chunk v

  pub free_full :
      is_refused (refusal_before s.counters (Free chunk v) list) ≡ false
      → ((stepped s (Free chunk v) list).refusal ≡ refused_full) ↔ (joins_full s.counters (record_at s.records v).allocation ≡ true)
  free_full unrefused = told_exactly s (Free chunk v) list unrefused refused_full free-carried

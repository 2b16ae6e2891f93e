-- What the other events can be given, and what refuses any line before it is carried out.
use Rattle.std.specs.Prelude.{ℕ, ◌≡◌, Bool, true, false, ◌&&◌, ◌||◌, eqb, leb, length, Option, Some, None, Result, ⊤, ltb, ◌-◌}
use Rattle.std.proofs.Math.Path.{refl, ap}
use Rattle.std.proofs.Common.{sym, ◌∙◌, true≢false}
use Rattle.std.proofs.lemmas.Bool.{false≢true}
use mathlib.Core.List.{List, [], ◌∷◌}
use Rattle.std.proofs.Math.Dec.{ltb}
use Rattle.notation.specs.ChoiceLaws.{either, by_test}
use Rattle.refusals.specs.declared.Refusal.{Refusal}
use Rattle.refusals.specs.Refusals.{accepted, refused_order, refused_size, refused_stop, refused_full, is_refused}
use Rattle.sizes.specs.Sizes.{variables, counts, open_branches, freed_registers}
use Rattle.forms.specs.declared.GenContext.{GenContext}
use Rattle.variable_records.specs.declared.VariableRecord.{VariableRecord}
use Rattle.variable_records.specs.Rows.{record_at}
use Rattle.branch_stack.specs.BranchStack.{current_branch}
use Rattle.allocator_state.specs.declared.Counters.{Counters}
use Rattle.record_marks.specs.RecordMarks.{marked_unconditionally}
use Rattle.freeing.specs.Freeing.{Release}
use Rattle.resets.specs.Resets.{Answer as Counting, register_freed, running_incremented, safe_marked_as, safe_marked}
use Rattle.clause_records.specs.ClauseRecords.{Rows, Recording, perm_recorded, temp_recorded}
use Rattle.branches.specs.declared.BranchError.{BranchError}
use Rattle.branches.specs.Branches.{top_of, nowhere_recorded, opening, advanced, arm_refusal, popped, names_temporary, to_take, taken, take_refusal}
use Rattle.branch_events.specs.BranchEvents.{open_released, opened, armed, stock_taken, close_released, closed}
use Rattle.events.specs.declared.Event.{Event}
use Rattle.events.specs.Events.{in_size, is_full, is_record, refusal_by_size, refusal_before}
use Rattle.invariants.specs.Lists.{All}
use Rattle.valid_stays.specs.Fits.{Kinds, Records, Permanent, Valid}
use Rattle.valid_stays.proofs.OfBranches.{hits_permanent}

-- a line that nothing refused before is not too long, and has room
pub unrefused_not_full :
    (c : Counters) (event : Event) (list : List ℕ) → is_refused (refusal_before c event list) ≡ false → is_full c event (length list) ≡ false
unfolding refusal_before refusal_by_size
unrefused_not_full c event list =
    let Room : Option Refusal → Type 0 = λ r. is_refused r ≡ false → is_full c event (length list) ≡ false in
    by_test Room (is_record event && ltb 0 c.events_seen) (λ e h. absurd (true≢false h))
    (λ e. by_test Room (in_size c.records event list)
    (λ e. by_test Room (is_full c event (length list)) (λ e h. absurd (true≢false h)) (λ e h. e))
    (λ e h. absurd (true≢false h)))

pub neither_second : (a b : Bool) → (a || b) ≡ false → b ≡ false
neither_second true b e = absurd (false≢true (sym e))
neither_second false b e = e

module _ (P : Option Refusal → Type 0) (none : P accepted) where
  -- ---- Before it is carried out: 2, 3, then 7 (rule 4.12)

  pub before_given :
      (c : Counters) (event : Event) (list : List ℕ)
      → ((is_record event && ltb 0 c.events_seen) ≡ true → P refused_order)
      → (in_size c.records event list ≡ false → P refused_size)
      → (is_full c event (length list) ≡ true → P refused_full)
      → P (refusal_before c event list)
  unfolding refusal_before refusal_by_size
  before_given c event list order size full =
      by_test P (is_record event && ltb 0 c.events_seen) order
      (λ e. by_test P (in_size c.records event list)
      (λ e. by_test P (is_full c event (length list)) full (λ e. none))
      size)

  -- ---- Records and counts

  module _ (c : Counters) (room : leb variables c.records ≡ false) where
    pub perm_recorded_given : (t : Rows) (occurrences : ℕ) → P (perm_recorded c t occurrences).released.refusal
    unfolding perm_recorded
    perm_recorded_given t occurrences =
        by_test (λ (r : Recording). P r.released.refusal) (leb variables c.records) (λ e. absurd (false≢true (sym room ∙ e)))
        (λ e. none)

    pub temp_recorded_given :
        (t : Rows) (context : GenContext) (occurrences : ℕ) (codes : List ℕ)
        → P (temp_recorded c t context occurrences codes).released.refusal
    unfolding temp_recorded
    temp_recorded_given t context occurrences codes =
        by_test (λ (r : Recording). P r.released.refusal) (leb variables c.records) (λ e. absurd (false≢true (sym room ∙ e)))
        (λ e. none)

  module _ (full : P refused_full) where
    pub give_given : (c : Counters) (list : List ℕ) (r : ℕ) → P (register_freed c list r).released.refusal
    unfolding register_freed
    give_given c list r = either (λ (r : Release). P r.released.refusal) (leb freed_registers c.freed_registers) full none

    pub incremented_given : (records : List ℕ) (v : ℕ) → P (running_incremented records v).refusal
    unfolding running_incremented
    incremented_given records v = either (λ (a : Counting). P a.refusal) (leb counts (record_at records v).running_count) full none

    -- ---- Branches

    pub open_given : (c : Counters) (rows sets : List ℕ) (start span arms : ℕ) → P (opened c rows sets start span arms).released.refusal
    unfolding opened opening
    open_given c rows sets start span arms =
        either (λ (o : Result ℕ BranchError). P (open_released c o).refusal) (leb open_branches c.open_branches) full none

    module _ (stop : P refused_stop) where
      pub arm_given : (c : Counters) (rows sets : List ℕ) (start span : ℕ) → P (armed c rows sets start span).released.refusal
      unfolding armed advanced
      arm_given c rows sets start span =
          let ArmGiven : Result ⊤ BranchError → Type 0 = λ a. P (arm_refusal a) in
          either ArmGiven (eqb c.open_branches 0) stop
          (either ArmGiven (leb counts (top_of rows sets c.open_branches).current_branch_idx) full none)

  module _ (stop : P refused_stop) where
    safe_as_given : (marked : Option VariableRecord) (records : List ℕ) (v : ℕ) → P (safe_marked_as marked records v).refusal
    safe_as_given (Some variable) records v = none
    safe_as_given None records v = stop

    pub safe_given : (records rows : List ℕ) (level v : ℕ) → P (safe_marked records rows level v).refusal
    unfolding safe_marked
    safe_given records rows level v = safe_as_given (marked_unconditionally (record_at records v) (current_branch rows level)) records v

    pub close_given :
        (c : Counters) (records rows sets : List ℕ) (depth : ℕ) (vs : List ℕ) → P (closed c records rows sets depth vs).released.refusal
    unfolding closed popped
    close_given c records rows sets depth vs =
        let CloseGiven : Result ℕ BranchError → Type 0 = λ p. P (close_released c p).refusal in
        either CloseGiven (ltb c.open_branches depth) stop
        (either CloseGiven (names_temporary records vs) stop
        (either CloseGiven (nowhere_recorded rows sets (c.open_branches - depth) vs) stop none))

    -- a branch's hits are permanent, so `take` meets no temporary
    none_named :
        (k : Kinds) {records : List ℕ} → Records k records → (vs : List ℕ) → All (Permanent k) vs → names_temporary records vs ≡ false
    unfolding names_temporary
    none_named k every [] all = refl
    none_named k {records} every (v ∷ vs) all =
        ap (λ (t : Bool). t || names_temporary records vs) (every.kind v all.0.0 ∙ all.0.1) ∙ none_named k every vs all.1

    pub take_given :
        (k : Kinds) {c : Counters} {records mappings queue freed rows sets : List ℕ} → Valid k c records mappings queue freed rows sets
        → P (stock_taken c records rows sets).released.refusal
    unfolding stock_taken taken
    take_given k {c} {records} {mappings} {queue} {freed} {rows} {sets} h =
        let level = c.open_branches in
        let vs = to_take records rows sets level in
        let TakenGiven : Result ⊤ BranchError → Type 0 = λ t. P (take_refusal t) in
        either TakenGiven (eqb level 0) stop
        (by_test TakenGiven (names_temporary records vs)
        (λ e. absurd (false≢true (sym (none_named k h.recorded vs (hits_permanent k h.opened)) ∙ e)))
        (λ e. none))

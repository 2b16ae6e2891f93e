-- In a valid state each line is given what its row says; what refuses it before it is carried out, only then.
use Rattle.std.specs.Prelude.{ℕ, ◌≡◌, true, false, List, ◌∷◌, leb, ltb, length, Option}
use Rattle.std.proofs.Common.{true≢false, arith, ltb-true}
use Rattle.std.proofs.lemmas.Bool.{false≢true}
use Rattle.notation.specs.ChoiceLaws.{both_true, either, by_test}
use Rattle.refusals.specs.declared.Refusal.{Refusal}
use Rattle.refusals.specs.Refusals.{accepted, is_refused}
use Rattle.sizes.specs.Sizes.{variables, uses}
use Rattle.clause_records.specs.ClauseRecords.{Rows, rows}
use Rattle.events.specs.declared.Event.{Event}
use Rattle.events.specs.declared.Event.TheVariants.{Temp, Perm, Sets, Head, Args, Var, Anon, NonVar, Cut, Incr, Free, Safe, Give, Tail, Next, Open, Arm, Take, Close, Reset, Contents, ClearFree}
use Rattle.events.specs.Events.{context_fits, refusal_before}
use Rattle.allocator_state.specs.declared.Counters.{Counters}
use Rattle.debray_allocator.specs.declared.State.{State}
use Rattle.debray_allocator.specs.declared.Answer.{Answer}
use Rattle.debray_allocator.specs.DebrayAllocator.{carried_out, refused_with, acted, unless_refused, stepped}
use Rattle.invariants.specs.OfEvents.{unrefused_in_size}
use Rattle.valid_stays.specs.Fits.{Kinds, StateFits}
use Rattle.refusals_given.specs.Given.{AllGiven, refusals_of, carrying_refusals}
use Rattle.refusals_given.proofs.OfMarkVar.{var_marked_given, freed_given}
use Rattle.refusals_given.proofs.OfOtherMarks.{anon_marked_given, non_var_marked_given, cut_marked_given}
use Rattle.refusals_given.proofs.OfEvents.{unrefused_not_full, neither_second, before_given, perm_recorded_given, temp_recorded_given, give_given, incremented_given, open_given, arm_given, safe_given, close_given, take_given}

-- P holds of no refusal and of a row
abbrev pub Row : (Option Refusal → Type 0) → Event → Type 0
Row P event = AllGiven P (accepted ∷ refusals_of event)

abbrev pub CarryingRow : (Option Refusal → Type 0) → Event → Type 0
CarryingRow P event = AllGiven P (accepted ∷ carrying_refusals event)

-- a test that is never met, and one that always is
never : {A : Type 0} → false ≡ true → A
never e = absurd (false≢true e)

always : {A : Type 0} → true ≡ false → A
always e = absurd (true≢false e)

module _ (P : Option Refusal → Type 0) (s : State) where
  abbrev c : Counters
  c = s.counters

  before : (event : Event) (list : List ℕ) → Row P event → P (refusal_before c event list)
  before (Temp context occurrences) list (none, (order, (size, (full, end)))) =
      before_given P none c (Temp context occurrences) list (λ e. order) (λ e. size) (λ e. full)
  before (Perm occurrences) list (none, (order, (size, (full, end)))) =
      before_given P none c (Perm occurrences) list (λ e. order) (λ e. size) (λ e. full)
  before Sets list (none, end) = before_given P none c Sets list never always never
  before Head list (none, (size, (full, end))) = before_given P none c Head list never (λ e. size) (λ e. full)
  before (Args count) list (none, (size, end)) = before_given P none c (Args count) list never (λ e. size) never
  before (Var target level context v) list (none, (size, (stop, (register, (slot, (full, end)))))) =
      before_given P none c (Var target level context v) list never (λ e. size) (λ e. full)
  before (Anon target level context) list (none, (size, (register, (full, end)))) =
      before_given P none c (Anon target level context) list never (λ e. size) (λ e. full)
  before (NonVar level context cell) list (none, (size, (register, (full, end)))) =
      before_given P none c (NonVar level context cell) list never (λ e. size) (λ e. full)
  before (Cut v chunk) list (none, (size, more)) = before_given P none c (Cut v chunk) list never (λ e. size) never
  before (Incr v) list (none, (size, more)) = before_given P none c (Incr v) list never (λ e. size) never
  before (Free chunk v) list (none, (size, more)) = before_given P none c (Free chunk v) list never (λ e. size) never
  before (Safe v) list (none, (size, more)) = before_given P none c (Safe v) list never (λ e. size) never
  before (Give r) list (none, (size, more)) = before_given P none c (Give r) list never (λ e. size) never
  before (Tail tail) list (none, (size, end)) = before_given P none c (Tail tail) list never (λ e. size) never
  before Next list (none, (full, end)) = before_given P none c Next list never always (λ e. full)
  before (Open start span arms) list (none, (size, more)) = before_given P none c (Open start span arms) list never (λ e. size) never
  before (Arm start span) list (none, more) = before_given P none c (Arm start span) list never always never
  before Take list (none, more) = before_given P none c Take list never always never
  before (Close depth) list (none, (size, (stop, (full, end)))) = before_given P none c (Close depth) list never (λ e. size) (λ e. full)
  before Reset list (none, end) = before_given P none c Reset list never always never
  before Contents list (none, end) = before_given P none c Contents list never always never
  before ClearFree list (none, end) = before_given P none c ClearFree list never always never

  -- the second row is part of the first
  carrying : (event : Event) → Row P event → CarryingRow P event
  carrying (Temp context occurrences) (none, more) = (none, tt)
  carrying (Perm occurrences) (none, more) = (none, tt)
  carrying Sets row = row
  carrying Head (none, more) = (none, tt)
  carrying (Args count) (none, more) = (none, tt)
  carrying (Var target level context v) (none, (size, more)) = (none, more)
  carrying (Anon target level context) (none, (size, (register, more))) = (none, (register, tt))
  carrying (NonVar level context cell) (none, (size, (register, more))) = (none, (register, tt))
  carrying (Cut v chunk) (none, (size, more)) = (none, more)
  carrying (Incr v) (none, (size, more)) = (none, more)
  carrying (Free chunk v) (none, (size, more)) = (none, more)
  carrying (Safe v) (none, (size, more)) = (none, more)
  carrying (Give r) (none, (size, more)) = (none, more)
  carrying (Tail tail) (none, more) = (none, tt)
  carrying Next (none, more) = (none, tt)
  carrying (Open start span arms) (none, (size, more)) = (none, more)
  carrying (Arm start span) row = row
  carrying Take row = row
  carrying (Close depth) (none, (size, (stop, more))) = (none, (stop, tt))
  carrying Reset row = row
  carrying Contents row = row
  carrying ClearFree row = row

  module _ (k : Kinds) (fits : StateFits k s) where
    abbrev tables : Rows
    tables = rows s.records s.sets

    carried :
        (event : Event) (list : List ℕ) → is_refused (refusal_before c event list) ≡ false → CarryingRow P event
        → P (carried_out s event list).refusal
    carried (Temp context occurrences) list unrefused (none, end) =
        let room = neither_second (ltb uses (length list)) (leb variables c.records) (unrefused_not_full c (Temp context occurrences) list unrefused) in
        temp_recorded_given P none c room tables context occurrences list
    carried (Perm occurrences) list unrefused (none, end) =
        perm_recorded_given P none c (unrefused_not_full c (Perm occurrences) list unrefused) tables occurrences
    carried Sets list unrefused (none, end) = none
    carried Head list unrefused (none, end) = none
    carried (Args count) list unrefused (none, end) = none
    carried (Var target level context v) list unrefused (none, (stop, (register, (slot, (full, end))))) =
        let b = both_true (context_fits context) (ltb v c.records) (unrefused_in_size c (Var target level context v) list unrefused) in
        var_marked_given P none stop register slot full k s.sets fits.uses
        (record { target = target; level = level; context = context; variable = v })
        (omega (arith, ltb-true v c.records b.1, fits.whole.counted.records)) fits.whole
    carried (Anon target level context) list unrefused (none, (register, end)) =
        anon_marked_given P none register s.records s.mappings s.sets s.freed_registers target level context c
    carried (NonVar level context cell) list unrefused (none, (register, end)) =
        non_var_marked_given P none register s.records s.mappings s.sets s.freed_registers level context cell c
    carried (Cut v chunk) list unrefused (none, (register, (slot, end))) =
        cut_marked_given P none register slot c s.records s.freed_slots s.freed_registers v chunk
    carried (Incr v) list unrefused (none, (full, end)) = incremented_given P none full s.records v
    carried (Free chunk v) list unrefused (none, (full, end)) = freed_given P none full c s.records s.freed_slots chunk v
    carried (Safe v) list unrefused (none, (stop, end)) = safe_given P none stop s.records s.branches.rows c.open_branches v
    carried (Give r) list unrefused (none, (full, end)) = give_given P none full c s.freed_registers r
    carried (Tail tail) list unrefused (none, end) = none
    carried Next list unrefused (none, end) = none
    carried (Open start span arms) list unrefused (none, (full, end)) =
        open_given P none full c s.branches.rows s.branches.sets start span arms
    carried (Arm start span) list unrefused (none, (stop, (full, end))) = arm_given P none full stop c s.branches.rows s.branches.sets start span
    carried Take list unrefused (none, (stop, end)) = take_given P none stop k fits.whole
    carried (Close depth) list unrefused (none, (stop, end)) =
        close_given P none stop c s.records s.branches.rows s.branches.sets depth list
    carried Reset list unrefused (none, end) = none
    carried Contents list unrefused (none, end) = none
    carried ClearFree list unrefused (none, end) = none

    abbrev AnswerGiven : Answer → Type 0
    AnswerGiven a = P a.refusal

    module _ (event : Event) (list : List ℕ) (first : P (refusal_before c event list)) (row : CarryingRow P event) where
      acted_given : AnswerGiven (acted s event list)
      unfolding acted refused_with
      acted_given =
          let refusal = refusal_before c event list in
          by_test AnswerGiven (is_refused refusal) (λ e. first)
          (λ e. carried event list e row)

      -- by what refuses it before, and by what refuses it while it is carried out
      pub stepped_by : P (stepped s event list).refusal
      unfolding stepped unless_refused refused_with
      stepped_by = either AnswerGiven (is_refused (acted s event list).refusal) acted_given acted_given

    pub stepped_given : (event : Event) (list : List ℕ) → Row P event → P (stepped s event list).refusal
    stepped_given event list row = stepped_by event list (before event list row) (carrying event row)

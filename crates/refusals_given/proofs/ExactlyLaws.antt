-- When a refusal is given, both ways (rule 25.3). To a line in a valid state: rules 4.1 to 4.3, and rule 4.7 of events that
-- fill nothing while they are carried out (of the others see CarriedExactly). To a sheet as a whole: rule 4.10. To a call: its
-- state, its length and its form, rules 17.3, 17.4, 17.6.
use Rattle.std.specs.Prelude.{ℕ, suc, ◌≤◌, ◌<◌, ◌≢◌, ◌↔◌, true, not, ltb, Option, Ok, Some, None}
use Rattle.std.proofs.Math.Path.{◌≡◌, refl, ap}
use Rattle.std.proofs.Common.{sym, ◌∙◌, arith, true≢false}
use Rattle.std.proofs.lemmas.Bool.{false≢true}
use Rattle.std.proofs.Math.Bool.{false}
use mathlib.Core.List.{List, [], ◌∷◌}
use Rattle.std.proofs.Math.ListN.{length}
use borrow.Author.Tests.{ltb-true, ltb-false, lt-ltb, le-ltb, not-true, not-false}
use Rattle.std.specs.Prelude.{if◌then◌else◌}
use Rattle.notation.specs.ChoiceLaws.{either, by_test}
use Rattle.refusals.specs.declared.Refusal.{Refusal}
use Rattle.refusals.specs.declared.Refusal.TheVariants.{Form, Size, Full as TooFull, Room}
use Rattle.refusals.specs.Refusals.{number_of, accepted, refused_form, refused_order, refused_size, refused_stop, refused_register, refused_slot, refused_full, is_refused}
use Rattle.refusals.specs.RefusalsLaws.{number-tells}
use Rattle.sizes.specs.Sizes.{sheet_bytes}
use Rattle.split.specs.Split.{line_feed, split}
use Rattle.events.specs.declared.Event.{Event}
use Rattle.events.specs.declared.Event.TheVariants.{Temp, Perm, Sets, Head, Args, Var, Anon, NonVar, Cut, Incr, Free, Safe, Give, Tail, Next, Open, Arm, Take, Close, Reset, Contents, ClearFree}
use Rattle.events.specs.Events.{refusal_by_size, refusal_before}
use Rattle.event_lines.specs.LineForms.{Line}
use Rattle.event_lines.specs.EventLines.{line_says, line_list}
use Rattle.debray_allocator.specs.declared.State.{State}
use Rattle.debray_allocator.specs.declared.Answer.{Answer}
use Rattle.debray_allocator.specs.State.{fresh_state}
use Rattle.debray_allocator.specs.DebrayAllocator.{refused_with, acted, unless_refused, stepped}
use Rattle.answers.specs.Answers.{text_of}
use Rattle.answered.specs.Answered.{Answered, refused}
use Rattle.answered.specs.NumberLaws.{line_in, refusal_in}
use Rattle.event_sheets.specs.EventSheets.{Ran, said_answer, line_answer, last_ran, line_ran, ran, sheet_ran, refused_or, answered_by, answered}
use Rattle.valid_states.specs.ValidStates.{is_valid}
use Rattle.event_calls.specs.declared.Called.{Called}
use Rattle.event_calls.specs.EventCalls.{parts_answer, bytes_answer, refused_call, refused_or as call_or, called_by, called}
use Rattle.event_calls.specs.CallLaws.{called_valid, by-refused}
use Rattle.valid_stays.specs.Fits.{Full}
use Rattle.valid_stays.proofs.FromTests.{kinds_of, valid_small, valid_fits}
use Rattle.refusals_given.specs.Given.{number_in, carrying_refusals}
use Rattle.refusals_given.proofs.OfEvents.{before_given}
use Rattle.refusals_given.proofs.OfSteps.{CarryingRow, stepped_by}
use Rattle.refusals_given.proofs.RefusalsGiven.{all_so, event_given, sheet_small}
use Rattle.refusals_given.specs.Exactly.{FullOnlyBefore, out_of_order, sizes_fit, too_full, Roomless, TooLong, Formless}

-- ---- 1: rule 4.1

module _ (s : State) (full : Full s) (valid : is_valid s ≡ true) where
  said_form : (said : Line) (list : List ℕ) → (said_answer s said list).refusal ≡ refused_form → said ≡ None
  said_form None list e = refl
  said_form (Some said) list e = absurd ((event_given s full valid said.event list).1 e)

  form_given : (said : Line) (list : List ℕ) → said ≡ None → (said_answer s said list).refusal ≡ refused_form
  unfolding refused_with
  form_given said list e = ap (λ (said : Line). (said_answer s said list).refusal) e

  pub form_exactly : (line : List ℕ) → ((line_answer s line).refusal ≡ refused_form) ↔ (line_says line ≡ None)
  unfolding line_answer
  form_exactly line = (said_form (line_says line) (line_list line), form_given (line_says line) (line_list line))

-- ---- 2 and 3: rules 4.2, 4.3

-- no number of what only comes before
abbrev Late : Option Refusal → Type 0
Late n = (n ≢ refused_order) × (n ≢ refused_size)

none_late : Late accepted
none_late = (λ e. cc, λ e. cc)

stop_late : Late refused_stop
stop_late = (λ e. cc, λ e. cc)

register_late : Late refused_register
register_late = (λ e. cc, λ e. cc)

slot_late : Late refused_slot
slot_late = (λ e. cc, λ e. cc)

full_late : Late refused_full
full_late = (λ e. cc, λ e. cc)

carrying_late : (event : Event) → CarryingRow Late event
carrying_late (Temp context occurrences) = (none_late, tt)
carrying_late (Perm occurrences) = (none_late, tt)
carrying_late Sets = (none_late, tt)
carrying_late Head = (none_late, tt)
carrying_late (Args count) = (none_late, tt)
carrying_late (Var target level context v) = (none_late, (stop_late, (register_late, (slot_late, (full_late, tt)))))
carrying_late (Anon target level context) = (none_late, (register_late, tt))
carrying_late (NonVar level context cell) = (none_late, (register_late, tt))
carrying_late (Cut v chunk) = (none_late, (register_late, (slot_late, tt)))
carrying_late (Incr v) = (none_late, (full_late, tt))
carrying_late (Free chunk v) = (none_late, (full_late, tt))
carrying_late (Safe v) = (none_late, (stop_late, tt))
carrying_late (Give r) = (none_late, (full_late, tt))
carrying_late (Tail tail) = (none_late, tt)
carrying_late Next = (none_late, tt)
carrying_late (Open start span arms) = (none_late, (full_late, tt))
carrying_late (Arm start span) = (none_late, (stop_late, (full_late, tt)))
carrying_late Take = (none_late, (stop_late, tt))
carrying_late (Close depth) = (none_late, (stop_late, tt))
carrying_late Reset = (none_late, tt)
carrying_late Contents = (none_late, tt)
carrying_late ClearFree = (none_late, tt)

abbrev NotFull : Option Refusal → Type 0
NotFull n = n ≢ refused_full

not_full_row : (event : Event) → FullOnlyBefore event → CarryingRow NotFull event
not_full_row (Temp context occurrences) only = (λ e. cc, tt)
not_full_row (Perm occurrences) only = (λ e. cc, tt)
not_full_row Sets only = (λ e. cc, tt)
not_full_row Head only = (λ e. cc, tt)
not_full_row (Args count) only = (λ e. cc, tt)
not_full_row (Var target level context v) only = absurd only
not_full_row (Anon target level context) only = (λ e. cc, (λ e. cc, tt))
not_full_row (NonVar level context cell) only = (λ e. cc, (λ e. cc, tt))
not_full_row (Cut v chunk) only = (λ e. cc, (λ e. cc, (λ e. cc, tt)))
not_full_row (Incr v) only = absurd only
not_full_row (Free chunk v) only = absurd only
not_full_row (Safe v) only = (λ e. cc, (λ e. cc, tt))
not_full_row (Give r) only = absurd only
not_full_row (Tail tail) only = (λ e. cc, tt)
not_full_row Next only = (λ e. cc, tt)
not_full_row (Open start span arms) only = absurd only
not_full_row (Arm start span) only = absurd only
not_full_row Take only = (λ e. cc, (λ e. cc, tt))
not_full_row (Close depth) only = (λ e. cc, (λ e. cc, tt))
not_full_row Reset only = (λ e. cc, tt)
not_full_row Contents only = (λ e. cc, tt)
not_full_row ClearFree only = (λ e. cc, tt)

module _ (s : State) (full : Full s) (valid : is_valid s ≡ true) (event : Event) (list : List ℕ) where
  abbrev first : Option Refusal
  first = refusal_before s.counters event list

  -- what refuses a line before it is carried out is what it is given
  first_given : is_refused first ≡ true → (stepped s event list).refusal ≡ first
  unfolding stepped unless_refused acted refused_with
  first_given some =
      let Same : Answer → Type 0 = λ a. a.refusal ≡ first in
      let reached : Same (acted s event list) =
      by_test Same (is_refused first) (λ e. refl) (λ e. absurd (true≢false (sym some ∙ e))) in
      either Same (is_refused (acted s event list).refusal) reached reached

  -- and no other line is given a number that only comes before
  only-before : (P : Option Refusal → Type 0) → P first → ((n : Option Refusal) → Late n → P n) → P (stepped s event list).refusal
  only-before P before late =
      stepped_by P s (kinds_of s (valid_small s valid)) (valid_fits s full valid) event list before
      (all_so late (accepted ∷ carrying_refusals event) (carrying_late event))

  order_only : (stepped s event list).refusal ≡ refused_order → (out_of_order s event list) ≡ true
  order_only =
      let P : Option Refusal → Type 0 = λ n. n ≡ refused_order → (out_of_order s event list) ≡ true in
      only-before P
      (before_given P (λ same. absurd cc) s.counters event list (λ e same. e) (λ e same. absurd cc)
      (λ e same. absurd cc))
      (λ n late same. absurd (late.0 same))

  order_given : (out_of_order s event list) ≡ true → (stepped s event list).refusal ≡ refused_order
  unfolding refusal_before
  order_given e =
      let same : first ≡ refused_order = simp (e) in
      first_given (ap is_refused same) ∙ same

  pub order_exactly : ((stepped s event list).refusal ≡ refused_order) ↔ ((out_of_order s event list) ≡ true)
  order_exactly = (order_only, order_given)

  size_only : (stepped s event list).refusal ≡ refused_size → (sizes_fit s event list) ≡ false
  size_only =
      let P : Option Refusal → Type 0 = λ n. n ≡ refused_size → (sizes_fit s event list) ≡ false in
      only-before P
      (before_given P (λ same. absurd cc) s.counters event list (λ e same. absurd cc) (λ e same. e)
      (λ e same. absurd cc))
      (λ n late same. absurd (late.1 same))

  module _ (in_order : (out_of_order s event list) ≡ false) where
    size_given : (sizes_fit s event list) ≡ false → (stepped s event list).refusal ≡ refused_size
    unfolding refusal_before refusal_by_size
    size_given e =
        let same : first ≡ refused_size = simp (in_order, e) in
        first_given (ap is_refused same) ∙ same

    pub size_exactly : ((stepped s event list).refusal ≡ refused_size) ↔ ((sizes_fit s event list) ≡ false)
    size_exactly = (size_only, size_given)

  -- ---- 7 before a line is carried out (rule 4.7), for events of which nothing can be full later

  full_only : CarryingRow NotFull event → (stepped s event list).refusal ≡ refused_full → (too_full s event list) ≡ true
  full_only row =
      let P : Option Refusal → Type 0 = λ n. n ≡ refused_full → (too_full s event list) ≡ true in
      stepped_by P s (kinds_of s (valid_small s valid)) (valid_fits s full valid) event list
      (before_given P (λ same. absurd cc) s.counters event list (λ e same. absurd cc)
      (λ e same. absurd cc) (λ e same. e))
      (all_so (λ n other same. absurd (other same)) (accepted ∷ carrying_refusals event) row)

  module _ (in_order : (out_of_order s event list) ≡ false) (fits : (sizes_fit s event list) ≡ true) where
    full_given : (too_full s event list) ≡ true → (stepped s event list).refusal ≡ refused_full
    unfolding refusal_before refusal_by_size
    full_given e =
        let same : first ≡ refused_full = simp (in_order, fits, e) in
        first_given (ap is_refused same) ∙ same

    pub full_exactly : FullOnlyBefore event → ((stepped s event list).refusal ≡ refused_full) ↔ ((too_full s event list) ≡ true)
    full_exactly only = (full_only (not_full_row event only), full_given)

-- ---- A sheet as a whole: 7 for its length, first of all, and 9 for the room, last of all (rules 4.9, 4.10)

-- a line that is refused has a number
abbrev Numbered : Ran → Type 0
Numbered r = is_refused r.refusal ≡ true → 1 ≤ r.line

ran-numbered : (parts : List (List ℕ)) (s : State) (number : ℕ) → 1 ≤ number → Numbered (ran s number parts)
unfolding ran last_ran line_ran
ran-numbered [] s number some = λ refused. absurd (false≢true refused)
ran-numbered (left ∷ []) s number some = either Numbered (ltb 0 (length left)) (λ refused. some) (λ refused. absurd (false≢true refused))
ran-numbered (line ∷ (next ∷ parts)) s number some =
    either Numbered (is_refused (line_answer s line).refusal) (λ refused. some)
    (ran-numbered (next ∷ parts) (line_answer s line).state (suc number) (omega arith))

sheet-numbered : (sheet : List ℕ) → Numbered (sheet_ran sheet)
unfolding sheet_ran
sheet-numbered sheet = ran-numbered (split line_feed sheet) fresh_state 1 (omega arith)

module _ (r : Ran) (lent : ℕ) where
  -- the sheet is not refused as a whole but for the room
  by_lines : Numbered r → answered_by r lent ≡ refused 0 TooFull → ⊥
  unfolding answered_by
  by_lines numbered =
      let NotFull : Answered → Type 0 = λ a. a ≡ refused 0 TooFull → ⊥ in
      elim r.refusal as
      (λ (refusal : Option Refusal). r.refusal ≡ refusal
      → NotFull (refused_or r.line refusal (if ltb lent (length r.text) then refused 0 Room else Ok (length r.text)))) [
        | Some refusal ↦ λ e same. omega (arith, ap line_in same, numbered (ap is_refused e))
        | None ↦ λ e. either NotFull (ltb lent (length r.text)) (λ same. omega (arith, ap refusal_in same)) (λ same. omega (arith, ap refusal_in same))
      ]
      refl

  by_room : number_in r.refusal ≤ number_of TooFull → answered_by r lent ≡ refused 0 Room → (r.refusal ≡ accepted) × (lent < length r.text)
  unfolding answered_by
  by_room small =
      let Roomless : Option Refusal → Answered → Type 0 = λ refusal a. a ≡ refused 0 Room → (refusal ≡ accepted) × (lent < length r.text) in
      elim r.refusal as
      (λ (refusal : Option Refusal). number_in refusal ≤ number_of TooFull
      → Roomless refusal (refused_or r.line refusal (if ltb lent (length r.text) then refused 0 Room else Ok (length r.text)))) [
        | Some refusal ↦ λ small same. absurd (omega (arith, ap refusal_in same, small))
        | None ↦ λ small. by_test (Roomless None) (ltb lent (length r.text)) (λ longer same. (refl, ltb-true lent (length r.text) longer))
            (λ fits same. absurd (omega (arith, ap refusal_in same)))
      ]
      small

  room_given : r.refusal ≡ accepted → lent < length r.text → answered_by r lent ≡ refused 0 Room
  unfolding answered_by
  room_given accepts longer = simp (accepts, lt-ltb lent (length r.text) longer)

module _ (sheet : List ℕ) (lent : ℕ) where
  length-only : answered sheet lent ≡ refused 0 TooFull → sheet_bytes < length sheet
  unfolding answered
  length-only =
      let TooLong : Answered → Type 0 = λ a. a ≡ refused 0 TooFull → sheet_bytes < length sheet in
      by_test TooLong (ltb sheet_bytes (length sheet)) (λ e same. ltb-true sheet_bytes (length sheet) e)
      (λ e same. absurd (by_lines (sheet_ran sheet) lent (sheet-numbered sheet) same))

  length_given : sheet_bytes < length sheet → answered sheet lent ≡ refused 0 TooFull
  unfolding answered
  length_given long = simp (lt-ltb sheet_bytes (length sheet) long)

  pub length_exactly : (answered sheet lent ≡ refused 0 TooFull) ↔ (sheet_bytes < length sheet)
  length_exactly = (length-only, length_given)

  room_only : answered sheet lent ≡ refused 0 Room → (Roomless sheet lent)
  unfolding answered
  room_only =
      let ToldRoomless : Answered → Type 0 = λ a. a ≡ refused 0 Room → (Roomless sheet lent) in
      by_test ToldRoomless (ltb sheet_bytes (length sheet)) (λ e same. absurd (omega (arith, ap refusal_in same)))
      (λ e same. (let found = by_room (sheet_ran sheet) lent (sheet_small sheet) same in
      (ltb-false sheet_bytes (length sheet) e, found.0, found.1)))

  room_so : (Roomless sheet lent) → answered sheet lent ≡ refused 0 Room
  unfolding answered
  room_so h = simp (le-ltb sheet_bytes (length sheet) h.0, room_given (sheet_ran sheet) lent h.1 h.2)

  pub room_exactly : (answered sheet lent ≡ refused 0 Room) ↔ (Roomless sheet lent)
  room_exactly = (room_only, room_so)

-- ---- A call: 3 for its state, first of all, and then 7 for its length (rules 17.4, 17.6)

module _ (s : State) (bytes : List ℕ) (lent : ℕ) where
  -- at line 0 a line is refused for the room alone
  abbrev RoomOnly : Called → Type 0
  RoomOnly c = (refusal : Refusal) → c.answered ≡ refused 0 refusal → refusal ≡ Room

  by-line : (a : Answer) → RoomOnly (called_by s a lent)
  unfolding called_by
  by-line a =
      elim a.refusal as
      (λ (refusal : Option Refusal). RoomOnly (call_or s refusal (if ltb lent (length (text_of a)) then refused_call s 0 Room else record { state = a.state; answered = Ok (length (text_of a)) }))) [
        | Some why ↦ λ refusal same. absurd (omega (arith, ap line_in same))
        | None ↦ either RoomOnly (ltb lent (length (text_of a))) (λ refusal same. number-tells refusal Room (sym (ap refusal_in same)))
            (λ refusal same. absurd cc)
      ]

  state_only : (called s bytes lent).answered ≡ refused 0 Size → is_valid s ≡ false
  unfolding called
  state_only =
      let Invalid : Called → Type 0 = λ c. c.answered ≡ refused 0 Size → is_valid s ≡ false in
      by_test Invalid (not (is_valid s)) (λ e same. not-true _ e)
      (λ e. either Invalid (ltb sheet_bytes (length bytes)) (λ same. absurd (omega (arith, ap refusal_in same)))
      (λ same. absurd (omega (arith, ap number_of (by-line (bytes_answer s bytes) Size same)))))

  state_given : is_valid s ≡ false → (called s bytes lent).answered ≡ refused 0 Size
  unfolding called
  state_given e = simp e

  pub state_exactly : ((called s bytes lent).answered ≡ refused 0 Size) ↔ (is_valid s ≡ false)
  state_exactly = (state_only, state_given)

  long_only : (called s bytes lent).answered ≡ refused 0 TooFull → (TooLong s bytes lent)
  unfolding called
  long_only =
      let Long : Called → Type 0 = λ c. c.answered ≡ refused 0 TooFull → (TooLong s bytes lent) in
      by_test Long (not (is_valid s)) (λ e same. absurd (omega (arith, ap refusal_in same)))
      (λ e. by_test Long (ltb sheet_bytes (length bytes)) (λ long same. (not-false _ e, ltb-true sheet_bytes (length bytes) long))
      (λ fits same. absurd (omega (arith, ap number_of (by-line (bytes_answer s bytes) TooFull same)))))

  long_given : (TooLong s bytes lent) → (called s bytes lent).answered ≡ refused 0 TooFull
  unfolding called
  long_given h = simp (h.0, lt-ltb sheet_bytes (length bytes) h.1)

  pub long_exactly : ((called s bytes lent).answered ≡ refused 0 TooFull) ↔ (TooLong s bytes lent)
  long_exactly = (long_only, long_given)

module _ (s : State) (full : Full s) (valid : is_valid s ≡ true) where
  formless_only : (parts : List (List ℕ)) → (parts_answer s parts).refusal ≡ refused_form → Formless parts
  formless_only [] e = tt
  formless_only (left ∷ []) e = tt
  formless_only (line ∷ ([] ∷ [])) e = (form_exactly s full valid line).0 e
  formless_only (line ∷ ([] ∷ (other ∷ others))) e = tt
  formless_only (line ∷ ((byte ∷ more) ∷ others)) e = tt

  formless_given : (parts : List (List ℕ)) → Formless parts → (parts_answer s parts).refusal ≡ refused_form
  unfolding refused_with
  formless_given [] h = refl
  formless_given (left ∷ []) h = refl
  formless_given (line ∷ ([] ∷ [])) h = (form_exactly s full valid line).1 h
  formless_given (line ∷ ([] ∷ (other ∷ others))) h = refl
  formless_given (line ∷ ((byte ∷ more) ∷ others)) h = refl

  module _ (lent : ℕ) where
    on_its_line : (a : Answer) → (called_by s a lent).answered ≡ refused 1 Form → a.refusal ≡ refused_form
    unfolding called_by
    on_its_line a =
        let Same : Option Refusal → Called → Type 0 = λ refusal c. c.answered ≡ refused 1 Form → refusal ≡ refused_form in
        elim a.refusal as
        (λ (refusal : Option Refusal). Same refusal (call_or s refusal (if ltb lent (length (text_of a)) then refused_call s 0 Room else record { state = a.state; answered = Ok (length (text_of a)) }))) [
          | Some why ↦ λ same. ap Some (number-tells why Form (ap refusal_in same))
          | None ↦ either (Same None) (ltb lent (length (text_of a))) (λ same. absurd (omega (arith, ap line_in same)))
              (λ same. absurd (omega (arith, ap line_in same)))
        ]

    pub formless_exactly :
        (bytes : List ℕ) → length bytes ≤ sheet_bytes
        → ((called s bytes lent).answered ≡ refused 1 Form) ↔ Formless (split line_feed bytes)
    unfolding bytes_answer
    formless_exactly bytes fits =
        let a = bytes_answer s bytes in
        let parts = split line_feed bytes in
        let same : called s bytes lent ≡ called_by s a lent = called_valid s bytes lent valid fits in (
          λ e. formless_only parts (on_its_line a (ap (λ c. c.answered) (sym same) ∙ e)),
          λ h. (let e : a.refusal ≡ refused_form = formless_given parts h in
              ap (λ c. c.answered) (same ∙ by-refused s a lent e)),
        )

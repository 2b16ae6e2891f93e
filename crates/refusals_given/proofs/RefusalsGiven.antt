-- A line of an event sheet is given no refusal but those of its row. So no event sheet and no call is given 8 (rule 4.8), and a
-- host can tell each answer by its number (rule 23.3).
use Rattle.std.specs.Prelude.{ℕ, suc, ◌≤◌, ◌≡◌, refl, ◌≢◌, true, not, ltb, length, Option, Ok, Some, None}
use mathlib.Core.List.{List, [], ◌∷◌, Memᴰ}
use native.Mathlib.Omega.{arith}
use Rattle.std.proofs.lemmas.Bool.{not-false}
use Rattle.std.specs.Prelude.{if◌then◌else◌}
use Rattle.notation.specs.ChoiceLaws.{either, by_test}
use Rattle.refusals.specs.declared.Refusal.{Refusal}
use Rattle.refusals.specs.declared.Refusal.TheVariants.{Size, Full as TooFull, Room}
use Rattle.refusals.specs.Refusals.{number_of, is_refused, accepted, refused_form, refused_order, refused_size, refused_stop, refused_register, refused_slot, refused_full}
use Rattle.refusals.specs.RefusalsLaws.{numbered}
use Rattle.sizes.specs.Sizes.{sheet_bytes}
use Rattle.split.specs.Split.{line_feed, split}
use Rattle.events.specs.declared.Event.{Event}
use Rattle.events.specs.declared.Event.TheVariants.{Temp, Perm, Sets, Head, Args, Var, Anon, NonVar, Cut, Incr, Free, Safe, Give, Tail, Next, Open, Arm, Take, Close, Reset, Contents, ClearFree}
use Rattle.event_lines.specs.LineForms.{Line}
use Rattle.event_lines.specs.EventLines.{line_says, line_list}
use Rattle.debray_allocator.specs.declared.State.{State}
use Rattle.debray_allocator.specs.DebrayAllocator.{refused_with, stepped}
use Rattle.answers.specs.Answers.{text_of}
use Rattle.answered.specs.Answered.{refused}
use Rattle.answered.specs.NumberLaws.{small_told, TellsApart, tells_apart, roomless}
use Rattle.event_sheets.specs.EventSheets.{Ran, said_answer, line_answer, ended, last_ran, line_ran, ran, sheet_ran}
use Rattle.event_sheets.specs.EventSheets.{refused_or, answered_by as events_answered_by, answered as answered_events}
use Rattle.valid_states.specs.ValidStates.{is_valid}
use Rattle.event_calls.specs.declared.Called.{Called}
use Rattle.event_calls.specs.EventCalls.{parts_answer, bytes_answer, refused_call, refused_or as call_or, called_by, called, last_answered}
use Rattle.event_calls.specs.FoldLaws.{line_reachable}
use Rattle.valid_stays.specs.Fits.{Full}
use Rattle.valid_stays.proofs.FromTests.{kinds_of, valid_small, valid_fits}
use Rattle.valid_stays.specs.Reachable.{Reachable, fresh}
use Rattle.valid_stays.proofs.ReachableLaws.{reachable_full, reachable_valid}
use Rattle.refusals_given.specs.Given.{number_in, AllGiven, refusals_of}
use Rattle.refusals_given.proofs.OfSteps.{Row, stepped_given}

-- ---- A line whose form is right

pub all_so : {P Q : Option Refusal → Type 0} → ((n : Option Refusal) → P n → Q n) → (ns : List (Option Refusal)) → AllGiven P ns → AllGiven Q ns
all_so f [] all = tt
all_so f (n ∷ ns) all = (f n all.0, all_so f ns all.1)

all_itself : (ns : List (Option Refusal)) → AllGiven (λ n. Memᴰ n ns) ns
all_itself [] = tt
all_itself (n ∷ ns) = (Memᴰ.head refl, all_so (λ m there. Memᴰ.tail there) ns (all_itself ns))

module _ (s : State) (full : Full s) (valid : is_valid s ≡ true) (event : Event) (list : List ℕ) where
  step_given : (P : Option Refusal → Type 0) → Row P event → P (stepped s event list).refusal
  step_given P row = stepped_given P s (kinds_of s (valid_small s valid)) (valid_fits s full valid) event list row

  -- it is accepted, or given a refusal of its row
  pub given_of_its_row : Memᴰ (stepped s event list).refusal (accepted ∷ refusals_of event)
  given_of_its_row = step_given (λ n. Memᴰ n (accepted ∷ refusals_of event)) (all_itself (accepted ∷ refusals_of event))

-- ---- Every refusal that is ever given

-- what a line whose form is right can be given: at most 7, and not 1
abbrev pub OfEvent : Option Refusal → Type 0
OfEvent refusal = (number_in refusal ≤ number_of TooFull) × (refusal ≢ refused_form)

none : OfEvent accepted
none = (omega arith, λ e. cc)

order : OfEvent refused_order
order = (omega arith, λ e. cc)

size : OfEvent refused_size
size = (omega arith, λ e. cc)

stop : OfEvent refused_stop
stop = (omega arith, λ e. cc)

register : OfEvent refused_register
register = (omega arith, λ e. cc)

slot : OfEvent refused_slot
slot = (omega arith, λ e. cc)

full : OfEvent refused_full
full = (omega arith, λ e. cc)

rows_of_events : (event : Event) → Row OfEvent event
rows_of_events (Temp context occurrences) = (none, (order, (size, (full, tt))))
rows_of_events (Perm occurrences) = (none, (order, (size, (full, tt))))
rows_of_events Sets = (none, tt)
rows_of_events Head = (none, (size, (full, tt)))
rows_of_events (Args count) = (none, (size, tt))
rows_of_events (Var target level context v) = (none, (size, (stop, (register, (slot, (full, tt))))))
rows_of_events (Anon target level context) = (none, (size, (register, (full, tt))))
rows_of_events (NonVar level context cell) = (none, (size, (register, (full, tt))))
rows_of_events (Cut v chunk) = (none, (size, (register, (slot, tt))))
rows_of_events (Incr v) = (none, (size, (full, tt)))
rows_of_events (Free chunk v) = (none, (size, (full, tt)))
rows_of_events (Safe v) = (none, (size, (stop, tt)))
rows_of_events (Give r) = (none, (size, (full, tt)))
rows_of_events (Tail tail) = (none, (size, tt))
rows_of_events Next = (none, (full, tt))
rows_of_events (Open start span arms) = (none, (size, (full, tt)))
rows_of_events (Arm start span) = (none, (stop, (full, tt)))
rows_of_events Take = (none, (stop, tt))
rows_of_events (Close depth) = (none, (size, (stop, (full, tt))))
rows_of_events Reset = (none, tt)
rows_of_events Contents = (none, tt)
rows_of_events ClearFree = (none, tt)

-- ---- Event sheets

module _ (s : State) (tables : Full s) (valid : is_valid s ≡ true) where
  pub event_given : (event : Event) (list : List ℕ) → OfEvent (stepped s event list).refusal
  event_given event list = step_given s tables valid event list OfEvent (rows_of_events event)

  said_small : (said : Line) (list : List ℕ) → number_in (said_answer s said list).refusal ≤ number_of TooFull
  unfolding refused_with
  said_small None list = omega arith
  said_small (Some said) list = (event_given said.event list).0

  line_small : (line : List ℕ) → number_in (line_answer s line).refusal ≤ number_of TooFull
  unfolding line_answer
  line_small line = said_small (line_says line) (line_list line)

abbrev RanSmall : Ran → Type 0
RanSmall r = number_in r.refusal ≤ number_of TooFull

ran_small : (parts : List (List ℕ)) {s : State} → Reachable s → (number : ℕ) → RanSmall (ran s number parts)
unfolding ran last_ran line_ran
ran_small [] r number = omega arith
ran_small (left ∷ []) r number = either RanSmall (ltb 0 (length left)) (omega arith) (omega arith)
ran_small (line ∷ (next ∷ parts)) {s} r number =
    either RanSmall (is_refused (line_answer s line).refusal) (line_small s (reachable_full r) (reachable_valid r) line)
    (ran_small (next ∷ parts) (line_reachable r line) (suc number))

pub sheet_small : (sheet : List ℕ) → RanSmall (sheet_ran sheet)
unfolding sheet_ran
sheet_small sheet = ran_small (split line_feed sheet) fresh 1

ran_tells : (r : Ran) → RanSmall r → (lent : ℕ) → TellsApart (events_answered_by r lent)
unfolding events_answered_by
ran_tells r small lent =
    elim r.refusal as
    (λ (refusal : Option Refusal). number_in refusal ≤ number_of TooFull
    → TellsApart (refused_or r.line refusal (if ltb lent (length r.text) then refused 0 Room else Ok (length r.text)))) [
      | Some refusal ↦ λ small. ((numbered refusal).0, small_told small)
      | None ↦ λ small. either TellsApart (ltb lent (length r.text)) roomless tt
    ]
    small

pub events_tell : (sheet : List ℕ) (lent : ℕ) → TellsApart (answered_events sheet lent)
unfolding answered_events
events_tell sheet lent =
    either TellsApart (ltb sheet_bytes (length sheet)) (tells_apart 0 TooFull (λ e. cc))
    (ran_tells (sheet_ran sheet) (sheet_small sheet) lent)

-- ---- Calls, where the tables have the lengths that their types give them

abbrev CallTells : Called → Type 0
CallTells c = TellsApart c.answered

module _ (s : State) (tables : Full s) where
  parts_small : is_valid s ≡ true → (parts : List (List ℕ)) → number_in (parts_answer s parts).refusal ≤ number_of TooFull
  unfolding refused_with
  parts_small valid [] = omega arith
  parts_small valid (left ∷ []) = omega arith
  parts_small valid (line ∷ ([] ∷ [])) = line_small s tables valid line
  parts_small valid (line ∷ ([] ∷ (other ∷ others))) = omega arith
  parts_small valid (line ∷ ((byte ∷ more) ∷ others)) = omega arith

  pub call_tells : (bytes : List ℕ) (lent : ℕ) → CallTells (called s bytes lent)
  unfolding called called_by bytes_answer
  call_tells bytes lent =
      let a = bytes_answer s bytes in
      by_test CallTells (not (is_valid s)) (λ e. tells_apart 0 Size (λ e. cc))
      (λ valid. either CallTells (ltb sheet_bytes (length bytes)) (tells_apart 0 TooFull (λ e. cc))
      (elim a.refusal as
      (λ (refusal : Option Refusal). number_in refusal ≤ number_of TooFull
      → CallTells (call_or s refusal (if ltb lent (length (text_of a)) then refused_call s 0 Room else record { state = a.state; answered = Ok (length (text_of a)) }))) [
        | Some refusal ↦ λ small. ((numbered refusal).0, small_told small)
        | None ↦ λ small. either CallTells (ltb lent (length (text_of a))) roomless tt
      ]
      (parts_small (not-false _ valid) (split line_feed bytes))))

pub last_tells : (s : State) (lent : ℕ) → TellsApart (last_answered s lent)
unfolding last_answered
last_tells s lent = either TellsApart (is_valid s) (ran_tells (ended s.counters) (omega arith) lent) (tells_apart 0 Size (λ e. cc))

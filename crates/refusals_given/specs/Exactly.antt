-- When a refusal is given, both ways (rule 25.3). To a line in a valid state: rules 4.1 to 4.3, and rule 4.7 of events that
-- fill nothing while they are carried out (of the others see CarriedExactly). To a sheet as a whole: rule 4.10. To a call: its
-- state, its length and its form, rules 17.3, 17.4, 17.6.
use Rattle.std.specs.Prelude.{ℕ, ◌≤◌, ◌<◌, Bool, true, ◌&&◌, ltb, None}
use Rattle.std.proofs.Math.Path.{◌≡◌}
use mathlib.Core.List.{List, [], ◌∷◌}
use Rattle.std.proofs.Math.ListN.{length}
use Rattle.refusals.specs.Refusals.{accepted}
use Rattle.sizes.specs.Sizes.{sheet_bytes}
use Rattle.events.specs.declared.Event.{Event}
use Rattle.events.specs.declared.Event.TheVariants.{Temp, Perm, Sets, Head, Args, Var, Anon, NonVar, Cut, Incr, Free, Safe, Give, Tail, Next, Open, Arm, Take, Close, Reset, Contents, ClearFree}
use Rattle.events.specs.Events.{in_size, is_full, is_record}
use Rattle.event_lines.specs.EventLines.{line_says}
use Rattle.debray_allocator.specs.declared.State.{State}
use Rattle.event_sheets.specs.EventSheets.{sheet_ran}
use Rattle.valid_states.specs.ValidStates.{is_valid}

-- nothing is full while the event is carried out
abbrev pub FullOnlyBefore : Event → Type 0
FullOnlyBefore (Temp context occurrences) = Unit {0}
FullOnlyBefore (Perm occurrences) = Unit {0}
FullOnlyBefore Sets = Unit {0}
FullOnlyBefore Head = Unit {0}
FullOnlyBefore (Args count) = Unit {0}
FullOnlyBefore (Var target level context v) = ⊥
FullOnlyBefore (Anon target level context) = Unit {0}
FullOnlyBefore (NonVar level context cell) = Unit {0}
FullOnlyBefore (Cut v chunk) = Unit {0}
FullOnlyBefore (Incr v) = ⊥
FullOnlyBefore (Free chunk v) = ⊥
FullOnlyBefore (Safe v) = Unit {0}
FullOnlyBefore (Give r) = ⊥
FullOnlyBefore (Tail tail) = Unit {0}
FullOnlyBefore Next = Unit {0}
FullOnlyBefore (Open start span arms) = ⊥
FullOnlyBefore (Arm start span) = ⊥
FullOnlyBefore Take = Unit {0}
FullOnlyBefore (Close depth) = Unit {0}
FullOnlyBefore Reset = Unit {0}
FullOnlyBefore Contents = Unit {0}
FullOnlyBefore ClearFree = Unit {0}

module _ (s : State) (event : Event) (list : List ℕ) where
  -- rule 5.2: a record behind an event
  abbrev pub out_of_order : Bool
  out_of_order = is_record event && ltb 0 s.counters.events_seen

  -- every number is inside its size, and the variable that is named has a record
  abbrev pub sizes_fit : Bool
  sizes_fit = in_size s.counters.records event list

  -- a list that is too long, a record too many, or the argument counter at 64
  abbrev pub too_full : Bool
  too_full = is_full s.counters event (length list)

-- ---- A sheet as a whole

module _ (sheet : List ℕ) (lent : ℕ) where
  -- no line is refused, and the text is longer than the room
  abbrev pub Roomless : Type 0
  Roomless = (length sheet ≤ sheet_bytes) × ((sheet_ran sheet).refusal ≡ accepted) × (lent < length (sheet_ran sheet).text)

-- ---- A call

module _ (s : State) (bytes : List ℕ) (lent : ℕ) where
  -- a line longer than a sheet, given to a valid state
  abbrev pub TooLong : Type 0
  TooLong = (is_valid s ≡ true) × (sheet_bytes < length bytes)

-- rule 17.3: a line is bytes with one LF, which stands behind all others; here there is none, or its form is wrong
abbrev pub Formless : List (List ℕ) → Type 0
Formless [] = Unit {0}
Formless (left ∷ []) = Unit {0}
Formless (line ∷ ([] ∷ [])) = line_says line ≡ None
Formless (line ∷ ([] ∷ (other ∷ others))) = Unit {0}
Formless (line ∷ ((byte ∷ more) ∷ others)) = Unit {0}

-- Sheets with known ends: what a row of the table says.
use Rattle.std.specs.Prelude.{ℕ, ◌≡◌, List, [], ◌∷◌, length, take, replicate, Ok}
use Prim.Native.String.{String}
use Rattle.notation.specs.Text.{bytes}
use Rattle.split.specs.Split.{line_feed, split}
use Rattle.debray_allocator.specs.declared.State.{State}
use Rattle.debray_allocator.specs.State.{fresh_state}
use Rattle.answered.specs.Answered.{Answered}
use Rattle.event_sheets.specs.EventSheets.{line_answer, answered as events_answered, filled as events_filled}
use Rattle.check_sheets.specs.CheckSheets.{ByVerdict, answered as check_answered, filled as check_filled}

-- the state after the lines of a sheet
unfoldable pub state_after : State → List (List ℕ) → State
state_after s [] = s
state_after s (left ∷ []) = s
state_after s (line ∷ (next ∷ parts)) = state_after (line_answer s line).state (next ∷ parts)

unfoldable pub sheet_state : List ℕ → State
sheet_state sheet = state_after fresh_state (split line_feed sheet)

pub data Known : Type 0 where
  -- a sheet of events, or a check sheet, is answered with a text
  event_sheet : String → String → Known
  check_sheet : String → String → Known
  -- after a sheet the first variables have these no_use_lem sets, or these conflict sets
  no_use_sets : String → List ℕ → Known
  conflict_sets : String → List ℕ → Known

-- with room for its text and no more
abbrev pub Answers : (List ℕ → ℕ → Answered) → (List ℕ → List ℕ → List ℕ) → List ℕ → List ℕ → Type 0
Answers answered filled sheet text =
    (answered sheet (length text) ≡ Ok (length text)) × (filled sheet (replicate (length text) 0) ≡ text)

abbrev pub Holds : Known → Type 0
Holds (event_sheet sheet text) = Answers events_answered events_filled (bytes sheet) (bytes text)
Holds (check_sheet sheet text) =
    ByVerdict (bytes sheet) (λ right. Answers (check_answered right) (check_filled right) (bytes sheet) (bytes text))
Holds (no_use_sets sheet sets) = take (length sets) (sheet_state (bytes sheet)).sets.no_use ≡ sets
Holds (conflict_sets sheet sets) = take (length sets) (sheet_state (bytes sheet)).sets.conflict ≡ sets

abbrev pub AllHold : List Known → Type 0
AllHold [] = Unit {0}
AllHold (known ∷ others) = Holds known × AllHold others

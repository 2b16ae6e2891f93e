-- A sheet fed line by line: a host keeps the state, lends its bytes to one call after the other and gathers what is written.
use Rattle.std.specs.Prelude.{ℕ, suc, Bool, true, ◌&&◌, List, [], ◌∷◌, ◌++◌, leb, length, take, Ok, Err, Some}
use Rattle.std.specs.Prelude.{if◌then◌else◌}
use Rattle.refusals.specs.Refusals.{accepted}
use Rattle.sizes.specs.Sizes.{sheet_bytes}
use Rattle.split.specs.Split.{line_feed}
use Rattle.debray_allocator.specs.declared.State.{State}
use Rattle.answers.specs.Answers.{text_of}
use Rattle.answered.specs.Answered.{Answered}
use Rattle.event_sheets.specs.EventSheets.{Ran, refused_at, behind, ended, line_answer}
use Rattle.valid_states.specs.ValidStates.{is_valid}
use Rattle.event_calls.specs.EventCalls.{called, call_filled, last_answered, last_filled}

-- a line as a call takes it
abbrev pub with_feed : List ℕ → List ℕ
with_feed line = line ++ (line_feed ∷ [])

-- the sheet's line for a call's: line 0 stays
abbrev pub line_in : ℕ → ℕ → ℕ
line_in number line = if leb line 0 then 0 else number

-- what was written stands before what follows; a refusal ends the sheet
abbrev pub gathered : ℕ → Answered → List ℕ → Ran → Ran
gathered number (Ok count) out later = behind (take count out) later
gathered number (Err told) out later = refused_at (line_in number told.line) (Some told.refusal)

abbrev pub nothing_more : Ran
nothing_more = record { text = []; line = 0; refusal = accepted }

-- from a state on, the lines from a number on, and then what the sheet ends with
unfoldable pub fed : State → List ℕ → ℕ → List (List ℕ) → Ran
fed s out number [] = gathered number (last_answered s (length out)) (last_filled s out) nothing_more
fed s out number (line ∷ lines) =
    gathered number
    (called s (with_feed line) (length out)).answered
    (call_filled s (with_feed line) out)
    (fed (called s (with_feed line) (length out)).state (call_filled s (with_feed line) out) (suc number) lines)

-- every state on the way is one that a host may lend
unfoldable pub all_valid : State → List (List ℕ) → Bool
all_valid s [] = is_valid s
all_valid s (line ∷ lines) = is_valid s && all_valid (line_answer s line).state lines

-- every line, its LF counted, is one that a sheet has room for
unfoldable pub lines_fit : List (List ℕ) → Bool
lines_fit [] = true
lines_fit (line ∷ lines) = leb (length (with_feed line)) sheet_bytes && lines_fit lines

-- every line's text finds room, the last one's too
unfoldable pub all_within : ℕ → State → List (List ℕ) → Bool
all_within room s [] = leb (length (ended s.counters).text) room
all_within room s (line ∷ lines) =
    leb (length (text_of (line_answer s line))) room && all_within room (line_answer s line).state lines

-- One line of an event sheet, given to a state, for every state, every list of bytes and every room: rules 17.1 to 17.3, 17.6.
use Rattle.std.specs.Prelude.{ℕ, not, List, [], ◌∷◌, ltb, length, Option, Ok, Some, None}
use Rattle.std.specs.Prelude.{if◌then◌else◌}
use Rattle.refusals.specs.declared.Refusal.{Refusal}
use Rattle.refusals.specs.declared.Refusal.TheVariants.{Size, Full, Room}
use Rattle.refusals.specs.Refusals.{refused_form}
use Rattle.sizes.specs.Sizes.{sheet_bytes}
use Rattle.split.specs.Split.{line_feed, split}
use Rattle.debray_allocator.specs.declared.State.{State}
use Rattle.debray_allocator.specs.declared.Answer.{Answer}
use Rattle.debray_allocator.specs.DebrayAllocator.{refused_with}
use Rattle.answers.specs.Answers.{text_of}
use Rattle.answered.specs.Answered.{Answered, refused, filled_by}
use Rattle.event_sheets.specs.EventSheets.{line_answer, ended, answered_by}
use Rattle.valid_states.specs.ValidStates.{is_valid}
use Rattle.event_calls.specs.declared.Called.{Called}

-- ---- A line: bytes with one LF, and nothing behind it (rule 17.3)

abbrev pub parts_answer : State → List (List ℕ) → Answer
parts_answer s [] = refused_with s refused_form
parts_answer s (left ∷ []) = refused_with s refused_form
parts_answer s (line ∷ ([] ∷ [])) = line_answer s line
parts_answer s (line ∷ ([] ∷ (other ∷ others))) = refused_with s refused_form
parts_answer s (line ∷ ((byte ∷ more) ∷ others)) = refused_with s refused_form

unfoldable pub bytes_answer : State → List ℕ → Answer
bytes_answer s bytes = parts_answer s (split line_feed bytes)

-- ---- The new state and the answer

-- rule 1.3: a refusal keeps the state
abbrev pub refused_call : State → ℕ → Refusal → Called
refused_call s line refusal = record { state = s; answered = refused line refusal }

-- another outcome, where the line is not refused
abbrev pub refused_or : State → Option Refusal → Called → Called
refused_or s (Some refusal) others = refused_call s 1 refusal
refused_or s None others = others

-- rules 17.1, 17.6: what the line is refused for, then the room; otherwise the state behind its event, and the text
unfoldable pub called_by : State → Answer → ℕ → Called
called_by s a room =
    refused_or s a.refusal
    (if ltb room (length (text_of a))
    then refused_call s 0 Room
    else record { state = a.state; answered = Ok (length (text_of a)) })

-- rules 1.4, 17.4, 17.6: the state comes first, then the length
unfoldable pub called : State → List ℕ → ℕ → Called
called s bytes room =
    if not (is_valid s) then refused_call s 0 Size
    else if ltb sheet_bytes (length bytes) then refused_call s 0 Full
    else called_by s (bytes_answer s bytes) room

-- the lent bytes afterwards
unfoldable pub call_filled : State → List ℕ → List ℕ → List ℕ
call_filled s bytes out = filled_by (called s bytes (length out)).answered (text_of (bytes_answer s bytes)) out

-- ---- The last line, for which the state is only read (rule 17.2)

unfoldable pub last_answered : State → ℕ → Answered
last_answered s room = if is_valid s then answered_by (ended s.counters) room else refused 0 Size

unfoldable pub last_filled : State → List ℕ → List ℕ
last_filled s out = filled_by (last_answered s (length out)) (ended s.counters).text out

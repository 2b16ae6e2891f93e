-- The whole answer to an event sheet, for every list of bytes and every room: rules 1.1, 1.4.
use Rattle.std.specs.Prelude.{ℕ, suc, ◌-◌, List, [], ◌∷◌, ◌++◌, leb, ltb, length, Option, Ok, Some, None}
use Rattle.std.specs.Prelude.{if◌then◌else◌}
use Rattle.refusals.specs.declared.Refusal.{Refusal}
use Rattle.refusals.specs.declared.Refusal.TheVariants.{Full, Room}
use Rattle.refusals.specs.Refusals.{accepted, refused_form, is_refused}
use Rattle.sizes.specs.Sizes.{sheet_bytes}
use Rattle.split.specs.Split.{line_feed, split}
use Rattle.allocator_state.specs.declared.Counters.{Counters}
use Rattle.event_lines.specs.LineForms.{Line}
use Rattle.event_lines.specs.EventLines.{line_says, line_list}
use Rattle.debray_allocator.specs.declared.State.{State}
use Rattle.debray_allocator.specs.declared.Answer.{Answer}
use Rattle.debray_allocator.specs.State.{fresh_state}
use Rattle.debray_allocator.specs.DebrayAllocator.{refused_with, stepped}
use Rattle.answers.specs.Answers.{text_of, end_text}
use Rattle.answered.specs.Answered.{Answered, refused, filled_by}

-- ---- A line: form first (rule 4.12), then the event's own refusals

abbrev pub said_answer : State → Line → List ℕ → Answer
said_answer s None list = refused_with s refused_form
said_answer s (Some said) list = stepped s said.event list

unfoldable pub line_answer : State → List ℕ → Answer
line_answer s line = said_answer s (line_says line) (line_list line)

-- ---- The lines of the clause, one after the other (rules 5.1, 16.1): a text, or a line and a refusal

pub record Ran : Type 0 where
  pub text : List ℕ
  pub line : ℕ
  pub refusal : Option Refusal

abbrev pub refused_at : ℕ → Option Refusal → Ran
refused_at line refusal = record { text = []; line = line; refusal = refusal }

abbrev pub behind : List ℕ → Ran → Ran
behind text r = record { text = text ++ r.text; line = r.line; refusal = r.refusal }

-- rule 16.4: the two numbers of the last line, and the line
unfoldable pub max_reg_allocated : Counters → ℕ
max_reg_allocated c = if leb c.temp_lb c.arg_c then c.arg_c else c.temp_lb

abbrev pub num_perm_vars : Counters → ℕ
num_perm_vars c = c.perm_lb - 1

abbrev pub ended : Counters → Ran
ended c = record { text = end_text (max_reg_allocated c) (num_perm_vars c); line = 0; refusal = accepted }

-- rules 2.1, 4.14: bytes behind the last LF are a line without one; where there are none, the sheet ends
unfoldable pub last_ran : Counters → ℕ → List ℕ → Ran
last_ran c number left = if ltb 0 (length left) then refused_at number refused_form else ended c

-- rule 4.11: a line that is refused ends the work; behind any other line it goes on with the new state
unfoldable pub line_ran : ℕ → Answer → (State → Ran) → Ran
line_ran number a others =
    if is_refused a.refusal then refused_at number a.refusal
    else behind (text_of a) (others a.state)

-- rule 16.1: from a state on, the lines from a number on; the last part is what stands behind the last LF
unfoldable pub ran : State → ℕ → List (List ℕ) → Ran
ran s number [] = ended s.counters
ran s number (left ∷ []) = last_ran s.counters number left
ran s number (line ∷ (next ∷ parts)) = line_ran number (line_answer s line) (λ after. ran after (suc number) (next ∷ parts))

unfoldable pub sheet_ran : List ℕ → Ran
sheet_ran sheet = ran fresh_state 1 (split line_feed sheet)

-- ---- The answer: length first, room last (rules 3.1, 4.9, 4.10)

-- others, where there is no refusal
abbrev pub refused_or : ℕ → Option Refusal → Answered → Answered
refused_or line (Some refusal) others = refused line refusal
refused_or line None others = others

unfoldable pub answered_by : Ran → ℕ → Answered
answered_by r room =
    refused_or r.line r.refusal (if ltb room (length r.text) then refused 0 Room else Ok (length r.text))

unfoldable pub answered : List ℕ → ℕ → Answered
answered sheet room =
    if ltb sheet_bytes (length sheet) then refused 0 Full else answered_by (sheet_ran sheet) room

unfoldable pub filled : List ℕ → List ℕ → List ℕ
filled sheet out = filled_by (answered sheet (length out)) (sheet_ran sheet).text out

-- One run over the lines of a sheet: how far a line gets, what the run answers, and what holds between two lines.
use Rattle.std.specs.Prelude.{ℕ, ◌+◌, ◌*◌, ◌≤◌, ◌≡◌, List, ltb, length, Some, None}
use Rattle.std.specs.Prelude.{if◌then◌else◌}
use Rattle.refusals.specs.Refusals.{refused_form, refused_full}
use Rattle.sizes.specs.Sizes.{sheet_bytes}
use Rattle.split.specs.Split.{line_feed, before, split}
use Rattle.printing.specs.Printing.{printed}
use Rattle.event_lines.specs.LineForms.{Line}
use Rattle.event_lines.specs.EventLines.{line_says, line_list}
use Rattle.debray_allocator.specs.declared.State.{State}
use Rattle.debray_allocator.specs.declared.Answer.{Answer}
use Rattle.debray_allocator.specs.DebrayAllocator.{by_refusal, with_counters, acted}
use Rattle.answers.specs.AnswersLaws.{longest}
use Rattle.event_sheets.specs.declared.Run.{Run}
use Rattle.event_sheets.specs.EventSheets.{Ran, refused_at, ran, sheet_ran}

-- how far a line gets, the tables with it, also where it is refused
abbrev pub said_acted : State → Line → List ℕ → Answer
said_acted s None list = with_counters s (by_refusal s.counters refused_form)
said_acted s (Some said) list = acted s said.event list

unfoldable pub line_acted : State → List ℕ → Answer
line_acted s line = said_acted s (line_says line) (line_list line)

-- a sheet that is too long has no run
unfoldable pub whole_ran : List ℕ → Ran
whole_ran sheet = if ltb sheet_bytes (length sheet) then refused_at 0 refused_full else sheet_ran sheet

-- a run as the code answers it: the length for the text
abbrev pub told : Ran → Run
told r = record { line = r.line; refusal = r.refusal; length = length r.text }

-- behind so many bytes
abbrev pub told_behind : ℕ → Ran → Run
told_behind count r = record { line = r.line; refusal = r.refusal; length = count + length r.text }

-- between two lines: what is left of the sheet, run from here on, makes the run of the whole sheet
pub record Going (sheet empty : List ℕ) (from : ℕ) (s : State) (rest : List ℕ) (end number count at : ℕ) (out : List ℕ) : Type 0 where
  pub tells : told_behind count (ran s number (split line_feed rest)) ≡ told (sheet_ran sheet)
  pub prints : printed out at (ran s number (split line_feed rest)).text ≡ printed empty from (sheet_ran sheet).text
  pub room : length out ≡ length empty
  pub ends : end ≡ length (before line_feed rest)
  pub lines : number + length rest ≤ length sheet + 1
  pub short : count ≤ longest * number

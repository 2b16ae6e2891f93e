-- One run over the lines of a check sheet: how far a line gets, what the run answers, and what holds between two lines.
use Rattle.std.specs.Prelude.{ℕ, ◌+◌, ◌-◌, ◌≤◌, ◌≡◌, Bool, false, Option, List, ltb, length, Result, Ok, Some, None}
use Rattle.std.specs.Prelude.{if◌then◌else◌}
use Rattle.refusals.specs.declared.Refusal.{Refusal}
use Rattle.refusals.specs.declared.Refusal.TheVariants.{Form}
use Rattle.refusals.specs.Refusals.{refused_form}
use Rattle.sizes.specs.Sizes.{steps}
use Rattle.split.specs.Split.{line_feed, before, split}
use Rattle.steps.specs.declared.Order.{Order}
use Rattle.steps.specs.declared.CheckLine.{CheckLine}
use Rattle.steps.specs.Order.{fresh_order, refusal_at_end}
use Rattle.steps.specs.Sums.{Sums}
use Rattle.check_lines.specs.Behind.{Line}
use Rattle.check_lines.specs.CheckLines.{line_says}
use Rattle.symbolic.specs.declared.Symbols.{Symbols}
use Rattle.symbolic.specs.Symbolic.{fresh_symbols, carried_all, Taking, taking, taken}
use Rattle.verdict.specs.Verdict.{decided}
use Rattle.answered.specs.declared.Refused.{Refused}
use Rattle.answered.specs.Answered.{refused}
use Rattle.check_sheets.specs.CheckSheets.{Reading, bad, reads, read_from, reading}

-- the verdict on lines, by the run on names
unfoldable pub verdict : List CheckLine → Bool
verdict lines = decided (carried_all fresh_order fresh_symbols lines)

abbrev pub verdict_of : Reading → Bool
verdict_of (bad number refusal) = false
verdict_of (reads lines) = verdict lines

-- how far a line gets
abbrev pub said_taken : Order → Symbols → Line → Taking
said_taken order s None = taking order s refused_form
said_taken order s (Some line) = taken order s line

unfoldable pub line_taken : Order → Symbols → List ℕ → Taking
line_taken order s line = said_taken order s (line_says line)

-- what the run answers: a line and its refusal, or whether the instructions are right
abbrev pub Run : Type 0
Run = Result Bool Refused

-- for lines that are read from an order and symbols on
abbrev pub run_from : Order → Symbols → Reading → Run
run_from order s (bad number refusal) = refused number refusal
run_from order s (reads lines) = Ok (decided (carried_all order s lines))

abbrev pub run_of : Reading → Run
run_of r = run_from fresh_order fresh_symbols r

-- a line and its refusal, or the run that goes on where there is none
abbrev pub refused_or : ℕ → Option Refusal → Run → Run
refused_or number (Some refusal) run = refused number refusal
refused_or number None run = run

-- what it answers at the last part, where the lines before it have a verdict
unfoldable pub last_run : Order → ℕ → List ℕ → Bool → Run
last_run order number left right =
    if ltb 0 (length left)
    then refused number Form
    else refused_or (number - 1) (refusal_at_end order) (Ok right)

-- between two lines: what is left of the sheet, run from here on, makes the run of the whole sheet
pub record Going (sheet : List ℕ) (order : Order) (s : Symbols) (rest : List ℕ) (end number : ℕ) : Type 0 where
  pub earlier : List CheckLine
  pub sums : Sums order earlier
  pub tells : run_from order s (read_from earlier number (split line_feed rest)) ≡ run_of (reading sheet)
  pub ends : end ≡ length (before line_feed rest)
  pub lines : number + length rest ≤ length sheet + 1
  pub few : order.steps ≤ steps

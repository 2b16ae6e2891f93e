-- The whole answer to a check sheet, for every list of bytes and every room: rules 1.1, 1.4, 21.6. Lines that stand before are
-- listed with the last one first.
use Rattle.std.specs.Prelude.{ℕ, suc, ◌-◌, ◌≡◌, Bool, true, false, ◌↔◌, Option, List, [], ◌∷◌, ltb, length, Ok, Some, None}
use Rattle.std.specs.Prelude.{if◌then◌else◌}
use Rattle.notation.specs.Text.{bytes}
use Rattle.refusals.specs.declared.Refusal.{Refusal}
use Rattle.refusals.specs.declared.Refusal.TheVariants.{Form, Order, Full, Room}
use Rattle.sizes.specs.Sizes.{sheet_bytes}
use Rattle.split.specs.Split.{line_feed, split}
use Rattle.steps.specs.declared.CheckLine.{CheckLine}
use Rattle.steps.specs.Steps.{steps_of, is_uncalled, refusal_of}
use Rattle.check_lines.specs.Behind.{Line}
use Rattle.check_lines.specs.CheckLines.{line_says}
use Rattle.machine.specs.Right.{Right}
use Rattle.answered.specs.Answered.{Answered, refused, filled_by}

-- ---- Reading: the lines of a sheet, or the first bad line and its refusal

pub data Reading : Type 0 where
  -- its number, and its refusal
  bad : ℕ → Refusal → Reading
  reads : List CheckLine → Reading

abbrev pub with_line : CheckLine → Reading → Reading
with_line line (bad number refusal) = bad number refusal
with_line line (reads lines) = reads (line ∷ lines)

-- a line is bad, or has no refusal and others tell
abbrev pub bad_or : ℕ → Option Refusal → Reading → Reading
bad_or number (Some refusal) others = bad number refusal
bad_or number None others = others

-- rules 2.1, 4.14, 19.9: bytes behind the last LF are a line without one; a missing `call` is refused at the last line
unfoldable pub last_read : List CheckLine → ℕ → List ℕ → Reading
last_read earlier number left =
    if ltb 0 (length left)
    then bad number Form
    else if is_uncalled (steps_of earlier) then bad (number - 1) Order else reads []

-- rules 4.11, 4.12: 1 comes before 2, 3 and 7, and the first bad line ends the reading
abbrev pub line_read : List CheckLine → ℕ → Line → (List CheckLine → Reading) → Reading
line_read earlier number None others = bad number Form
line_read earlier number (Some line) others =
    bad_or number (refusal_of earlier line) (with_line line (others (line ∷ earlier)))

unfoldable pub read_from : List CheckLine → ℕ → List (List ℕ) → Reading
-- no sheet has no part
read_from earlier number [] = reads []
read_from earlier number (left ∷ []) = last_read earlier number left
read_from earlier number (line ∷ (next ∷ parts)) =
    line_read earlier number (line_says line) (λ sofar. read_from sofar (suc number) (next ∷ parts))

unfoldable pub reading : List ℕ → Reading
reading sheet = read_from [] 1 (split line_feed sheet)

-- ---- Whether the instructions are right (rule 21.5)

-- `right` tells it of a sheet that is read; of one with a bad line it is false, so that there is one value there too
abbrev pub Tells : Bool → Reading → Type 0
Tells right (bad number refusal) = right ≡ false
Tells right (reads lines) = (right ≡ true) ↔ Right lines

-- ---- The answer: length first, room last (rules 3.1, 4.9, 4.10)

abbrev pub accepted_text : List ℕ
accepted_text = bytes "accepted\n"

abbrev pub rejected_text : List ℕ
rejected_text = bytes "rejected\n"

-- rule 21.6
abbrev pub word_of : Bool → List ℕ
word_of right = if right then accepted_text else rejected_text

-- the word, if there is room
unfoldable pub roomed : Bool → ℕ → Answered
roomed right room = if ltb room (length (word_of right)) then refused 0 Room else Ok (length (word_of right))

abbrev pub answered_by : Bool → Reading → ℕ → Answered
answered_by right (bad number refusal) room = refused number refusal
answered_by right (reads lines) room = roomed right room

unfoldable pub answered : Bool → List ℕ → ℕ → Answered
answered right sheet room =
    if ltb sheet_bytes (length sheet) then refused 0 Full else answered_by right (reading sheet) room

unfoldable pub filled : Bool → List ℕ → List ℕ → List ℕ
filled right sheet out = filled_by (answered right sheet (length out)) (word_of right) out

-- ---- The verdict

-- what holds of the verdict on a sheet, the one truth value that tells whether its instructions are right
pub record ByVerdict (sheet : List ℕ) (Holds : Bool → Type 0) : Type 0 where
  pub right : Bool
  pub tells : Tells right (reading sheet)
  pub holds : Holds right

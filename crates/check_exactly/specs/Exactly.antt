-- When a check sheet is read and when it is refused, in words of its lines alone: rules 4.11, 4.14, 19.9.
-- Lines that stand before are listed with the last one first.
use Rattle.std.specs.Prelude.{ℕ, suc, ◌<◌, ◌≡◌, true, false, ◌⊎◌, List, [], ◌∷◌, reverse, length, Ok, Err, Some, None}
use Rattle.refusals.specs.declared.Refusal.{Refusal}
use Rattle.refusals.specs.declared.Refusal.TheVariants.{Form, Order, Size, Full, Room}
use Rattle.refusals.specs.Refusals.{accepted}
use Rattle.split.specs.Split.{line_feed, split}
use Rattle.answered.specs.Answered.{Answered}
use Rattle.steps.specs.declared.CheckLine.{CheckLine}
use Rattle.steps.specs.Steps.{steps_of, is_out_of_order, is_uncalled, fits, is_full, refusal_of}
use Rattle.check_lines.specs.Behind.{Line}
use Rattle.check_lines.specs.CheckLines.{line_says}

-- ---- The lines that are read

-- how many lines of a sheet are read, what they say, and the parts behind them: each has its LF, says a line and is accepted
-- behind those before it
pub data ReadSoFar (sheet : List ℕ) : ℕ → List CheckLine → List (List ℕ) → Type 0 where
  none : ReadSoFar sheet 0 [] (split line_feed sheet)
  more :
      {count : ℕ} {earlier : List CheckLine} {text next : List ℕ} {parts : List (List ℕ)} {line : CheckLine}
      → ReadSoFar sheet count earlier (text ∷ (next ∷ parts))
      → line_says text ≡ Some line
      → refusal_of earlier line ≡ accepted
      → ReadSoFar sheet (suc count) (line ∷ earlier) (next ∷ parts)

-- behind lines that are read this holds of those three
pub record Behind (sheet : List ℕ) (Holds : ℕ → List CheckLine → List (List ℕ) → Type 0) : Type 0 where
  pub count : ℕ
  pub earlier : List CheckLine
  pub rest : List (List ℕ)
  pub read : ReadSoFar sheet count earlier rest
  pub holds : Holds count earlier rest

-- ---- What stands behind them

-- a line with its LF, behind which there is another part
abbrev pub LineThat : (Line → Type 0) → List (List ℕ) → Type 0
LineThat Holds [] = ⊥
LineThat Holds (left ∷ []) = ⊥
LineThat Holds (text ∷ (next ∷ parts)) = Holds (line_says text)

-- a line that has no LF
abbrev pub Unended : List (List ℕ) → Type 0
Unended [] = ⊥
Unended (left ∷ []) = 0 < length left
Unended (text ∷ (next ∷ parts)) = ⊥

-- nothing: the last line has its LF
abbrev pub Ended : List (List ℕ) → Type 0
Ended rest = rest ≡ [] ∷ []

-- ---- Line `number`, where all lines before it are read

abbrev pub LineAt : List ℕ → ℕ → (List CheckLine → Line → Type 0) → Type 0
LineAt sheet number Holds = Behind sheet (λ count earlier rest. (number ≡ suc count) × LineThat (Holds earlier) rest)

abbrev pub UnendedAt : List ℕ → ℕ → Type 0
UnendedAt sheet number = Behind sheet (λ count earlier rest. (number ≡ suc count) × Unended rest)

-- rule 19.9: the last line, where a `call` is missing
abbrev pub UncalledAt : List ℕ → ℕ → Type 0
UncalledAt sheet number = Behind sheet (λ count earlier rest. (number ≡ count) × Ended rest × (is_uncalled (steps_of earlier) ≡ true))

-- ---- The first bad line, or all lines

-- 1, or what the lines before it give it
abbrev pub RefusedBy : Refusal → List CheckLine → Line → Type 0
RefusedBy refusal earlier None = refusal ≡ Form
RefusedBy refusal earlier (Some line) = Some refusal ≡ refusal_of earlier line

abbrev pub FirstBad : List ℕ → ℕ → Refusal → Type 0
FirstBad sheet number refusal =
    LineAt sheet number (RefusedBy refusal)
    ⊎ ((refusal ≡ Form) × UnendedAt sheet number)
    ⊎ ((refusal ≡ Order) × UncalledAt sheet number)

-- `lines` are in the sheet's order, and no `call` is missing
abbrev pub AllRead : List ℕ → List CheckLine → Type 0
AllRead sheet lines =
    Behind sheet (λ count earlier rest. (lines ≡ reverse earlier) × Ended rest × (is_uncalled (steps_of earlier) ≡ false))

abbrev pub IsRead : List ℕ → Type 0
IsRead sheet = (lines : List CheckLine) × AllRead sheet lines

-- ---- What a line that says something is refused for: 2, 3, then 7 (rule 4.12)

abbrev pub SaysThat : (List CheckLine → CheckLine → Type 0) → List CheckLine → Line → Type 0
SaysThat Holds earlier None = ⊥
SaysThat Holds earlier (Some line) = Holds earlier line

abbrev pub OutOfOrder : List CheckLine → CheckLine → Type 0
OutOfOrder earlier line = is_out_of_order earlier line ≡ true

abbrev pub OutOfSize : List CheckLine → CheckLine → Type 0
OutOfSize earlier line = (is_out_of_order earlier line ≡ false) × (fits line ≡ false)

abbrev pub TooMany : List CheckLine → CheckLine → Type 0
TooMany earlier line = (is_out_of_order earlier line ≡ false) × (fits line ≡ true) × (is_full earlier line ≡ true)

-- ---- What is ever given: 1, 2, 3 and 7, and 9 to a sheet as a whole

abbrev pub GivenToLines : Refusal → Type 0
GivenToLines refusal = (refusal ≡ Form) ⊎ (refusal ≡ Order) ⊎ (refusal ≡ Size) ⊎ (refusal ≡ Full)

abbrev pub GivenBy : Answered → Type 0
GivenBy (Ok count) = Unit {0}
GivenBy (Err told) = GivenToLines told.refusal ⊎ ((told.line ≡ 0) × (told.refusal ≡ Room))

-- What can stand behind the word of a line, field after field: rules 2.2, 2.3, 2.4, 4.1, 16.3, 19.1, 19.2.
use Rattle.std.specs.Prelude.{ℕ, List, [], ◌∷◌, take, drop, Option, Some, None}
use Rattle.std.specs.Prelude.{if◌then◌else◌}
use Rattle.notation.specs.Text.{bytes}
use Rattle.words.specs.Words.{same}
use Rattle.numbers.specs.Numbers.{number_of}
use Rattle.registers.specs.declared.RegType.{RegType}
use Rattle.registers.specs.declared.RegType.TheVariants.{Temp, Perm}
use Rattle.instructions.specs.declared.Instruction.{Instruction}
use Rattle.steps.specs.declared.Step.{Step}
use Rattle.steps.specs.declared.CheckLine.{CheckLine}
use Rattle.steps.specs.declared.CheckLine.TheVariants.{Begins, Does}

-- what a line says, where it has a form
abbrev pub Line : Type 0
Line = Option CheckLine

-- by the fields behind its word
abbrev pub Behind : Type 0
Behind = List (List ℕ) → Line

-- ---- The next field, then more; a field that is missing, malformed or left over makes no line

-- no field is left
unfoldable pub no_more : CheckLine → Behind
no_more line [] = Some line
no_more line (field ∷ fields) = None

-- rule 2.3: the number that a field holds
abbrev pub held : Option ℕ → (ℕ → Line) → Line
held (Some n) more = more n
held None more = None

unfoldable pub a_number : (ℕ → Behind) → Behind
a_number more [] = None
a_number more (field ∷ fields) = held (number_of field) (λ n. more n fields)

-- a register, `x` with a number, or a slot, `y` with a number
unfoldable pub a_place : (RegType → Behind) → Behind
a_place more [] = None
a_place more (field ∷ fields) =
    if same (take 1 field) (bytes "x")
    then held (number_of (drop 1 field)) (λ r. more (Temp r) fields)
    else if same (take 1 field) (bytes "y") then held (number_of (drop 1 field)) (λ r. more (Perm r) fields) else None

-- rule 19.2: an unsafe value comes from a slot only
abbrev pub slot_only : (ℕ → Behind) → RegType → Behind
slot_only more (Perm slot) fields = more slot fields
slot_only more (Temp r) fields = None

-- ---- All fields behind a word

-- rule 19.1: nothing, v, or k and v
abbrev pub alone : Step → Behind
alone step = no_more (Begins step)

abbrev pub variable : (ℕ → Step) → Behind
variable step = a_number (λ v. no_more (Begins (step v)))

abbrev pub argument_and_variable : (ℕ → ℕ → Step) → Behind
argument_and_variable step = a_number (λ k. a_number (λ v. no_more (Begins (step k v))))

-- rules 16.3, 19.2: a place, or a place and k
abbrev pub place_alone : (RegType → Instruction) → Behind
place_alone instruction = a_place (λ place. no_more (Does (instruction place)))

abbrev pub place_and_argument : (RegType → ℕ → Instruction) → Behind
place_and_argument instruction = a_place (λ place. a_number (λ k. no_more (Does (instruction place k))))

abbrev pub slot_and_argument : (ℕ → ℕ → Instruction) → Behind
slot_and_argument instruction = a_place (slot_only (λ slot. a_number (λ k. no_more (Does (instruction slot k)))))

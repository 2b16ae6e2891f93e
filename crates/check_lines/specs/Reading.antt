-- The walk of the code: a word's number, and by this number what the fields behind the word say. It means nothing by itself:
-- `ReadingLaws.antt` proves that the table says the same.
use Rattle.std.specs.Prelude.{ℕ, List, [], ◌∷◌, eqb, take, drop, Option, Some, None, option_map}
use Rattle.std.specs.Prelude.{if◌then◌else◌}
use Rattle.notation.specs.Text.{bytes}
use Rattle.words.specs.Words.{same, code_among}
use Rattle.numbers.specs.Numbers.{number_of}
use Rattle.registers.specs.declared.RegType.{RegType}
use Rattle.registers.specs.declared.RegType.TheVariants.{Temp, Perm}
use Rattle.instructions.specs.declared.Instruction.TheVariants.{GetVariable, GetValue, PutVariable, PutValue, PutUnsafeValue, SetVariable, SetValue, SetLocalValue, UnifyVariable, UnifyValue, UnifyLocalValue}
use Rattle.steps.specs.declared.Step.TheVariants.{Head, HeadDeep, Goal, GoalDeep, Call}
use Rattle.steps.specs.declared.CheckLine.TheVariants.{Begins, Does}
use Rattle.check_lines.specs.declared.Field.{Field}
use Rattle.check_lines.specs.declared.Field.TheVariants.{Number as of_number, Place as of_place}
use Rattle.check_lines.specs.Behind.{Line, Behind, held}
use Rattle.check_lines.specs.Words.{WordRow, line_words}

-- ---- The number of a word

abbrev pub words_of : List WordRow → List (List ℕ)
words_of [] = []
words_of ((known, behind) ∷ rows) = known ∷ words_of rows

-- behind the five words of steps
abbrev pub instruction_words : List (List ℕ)
instruction_words = drop 5 (words_of line_words)

-- behind the five that have an argument, too
abbrev pub place_words : List (List ℕ)
place_words = drop 5 instruction_words

unfoldable pub word_code : List ℕ → ℕ
word_code word = code_among 1 (words_of line_words) word

-- ---- A field is a number, or a place: `x` or `y` with a number

unfoldable pub field_of : List ℕ → Option Field
field_of field =
    if same (take 1 field) (bytes "x")
    then option_map (λ r. of_place (Temp r)) (number_of (drop 1 field))
    else if same (take 1 field) (bytes "y") then option_map (λ slot. of_place (Perm slot)) (number_of (drop 1 field)) else option_map of_number (number_of field)

-- ---- The lines of the numbers, by what is read behind the word; any other number has none

unfoldable pub no_field : ℕ → Line
no_field code = if eqb code 1 then Some (Begins Call) else None

unfoldable pub deep_step : ℕ → ℕ → Line
deep_step code v =
    if eqb code 2 then Some (Begins (HeadDeep v)) else if eqb code 3 then Some (Begins (GoalDeep v)) else None

unfoldable pub argument_step : ℕ → ℕ → ℕ → Line
argument_step code k v =
    if eqb code 4 then Some (Begins (Head k v)) else if eqb code 5 then Some (Begins (Goal k v)) else None

abbrev pub unsafe_line : RegType → ℕ → Line
unsafe_line (Perm slot) k = Some (Does (PutUnsafeValue slot k))
unsafe_line (Temp r) k = None

unfoldable pub argument_instruction : ℕ → RegType → ℕ → Line
argument_instruction code place k =
    if eqb code 6
    then Some (Does (GetVariable place k))
    else if eqb code 7
    then Some (Does (GetValue place k))
    else if eqb code 8
    then Some (Does (PutVariable place k))
    else if eqb code 9 then Some (Does (PutValue place k)) else if eqb code 10 then unsafe_line place k else None

unfoldable pub place_instruction : ℕ → RegType → Line
place_instruction code place =
    if eqb code 11
    then Some (Does (SetVariable place))
    else if eqb code 12
    then Some (Does (SetValue place))
    else if eqb code 13
    then Some (Does (SetLocalValue place))
    else if eqb code 14
    then Some (Does (UnifyVariable place))
    else if eqb code 15
    then Some (Does (UnifyValue place))
    else if eqb code 16 then Some (Does (UnifyLocalValue place)) else None

-- ---- A line by its fields, of which there are at most two, and the second is a number

-- by what was read in a field: a number, or a place
abbrev pub by_field : (ℕ → Line) → (RegType → Line) → Option Field → Line
by_field for_number for_place (Some (of_number n)) = for_number n
by_field for_number for_place (Some (of_place place)) = for_place place
by_field for_number for_place None = None

abbrev pub one_field : ℕ → Option Field → Line
one_field code field = by_field (deep_step code) (place_instruction code) field

abbrev pub two_fields : ℕ → Option Field → Option ℕ → Line
two_fields code first second =
    by_field (λ k. held second (argument_step code k)) (λ place. held second (argument_instruction code place)) first

-- behind the first field: nothing, or one number
abbrev pub last_field : Line → (ℕ → Line) → Behind
last_field ended for_number [] = ended
last_field ended for_number (field ∷ []) = held (number_of field) for_number
last_field ended for_number (field ∷ (next ∷ fields)) = None

-- by what is said of no field, of a number, of two, of a place, and of a place and a number
abbrev pub by_fields : Line → (ℕ → Line) → (ℕ → ℕ → Line) → (RegType → Line) → (RegType → ℕ → Line) → Behind
by_fields bare deep step placed both [] = bare
by_fields bare deep step placed both (field ∷ fields) =
    by_field (λ v. last_field (deep v) (step v) fields) (λ place. last_field (placed place) (both place) fields) (field_of field)

unfoldable pub said_by : ℕ → Behind
said_by code fields =
    by_fields (no_field code) (deep_step code) (argument_step code) (place_instruction code) (argument_instruction code) fields

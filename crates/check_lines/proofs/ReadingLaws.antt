-- The walk of the code is the table: what the matches say of a number is what the row of that number says.
use Rattle.std.specs.Prelude.{ℕ, suc, ◌≤◌, ◌<◌, ◌≡◌, Bool, true, false, List, [], ◌∷◌, eqb, leb, length, take, drop, Option, Some, None, option_map}
use Rattle.std.proofs.Math.Path.{refl}
use Rattle.std.proofs.Common.{sym, ◌∙◌, arith, eqb-true, leb-true, ne_eqb}
use Rattle.std.proofs.lemmas.Bool.{false≢true}
use Rattle.std.proofs.Math.Bool.{and-false}
use Rattle.std.specs.Prelude.{if◌then◌else◌}
use Rattle.notation.specs.ChoiceLaws.{both_true, by_test}
use Rattle.notation.specs.Text.{bytes, byte}
use Rattle.words.specs.Words.{same, code_among}
use Rattle.numbers.specs.Numbers.{is_digit, all_digits, is_number, number_of}
use Rattle.registers.specs.declared.RegType.{RegType}
use Rattle.registers.specs.declared.RegType.TheVariants.{Temp, Perm}
use Rattle.instructions.specs.declared.Instruction.{Instruction}
use Rattle.instructions.specs.declared.Instruction.TheVariants.{GetVariable, GetValue, PutVariable, PutValue, PutUnsafeValue, SetVariable, SetValue, SetLocalValue, UnifyVariable, UnifyValue, UnifyLocalValue}
use Rattle.steps.specs.declared.Step.{Step}
use Rattle.steps.specs.declared.Step.TheVariants.{Head, HeadDeep, Goal, GoalDeep, Call}
use Rattle.steps.specs.declared.CheckLine.{CheckLine}
use Rattle.steps.specs.declared.CheckLine.TheVariants.{Begins, Does}
use Rattle.check_lines.specs.declared.Field.{Field}
use Rattle.check_lines.specs.declared.Field.TheVariants.{Number as of_number, Place as of_place}
use Rattle.check_lines.specs.Behind.{Line, Behind, no_more, held, a_number, a_place, slot_only, alone, variable, argument_and_variable, place_alone, place_and_argument, slot_and_argument}
use Rattle.check_lines.specs.Words.{WordRow, line_words}
use Rattle.check_lines.specs.CheckLines.{said_among}
use Rattle.check_lines.specs.Reading.{words_of, word_code, field_of, no_field, deep_step, argument_step, unsafe_line, argument_instruction, place_instruction, by_field, last_field, by_fields, said_by}

abbrev none : {A : Type 0} → A → Line
none a = None

-- ---- A field: the code reads it before it knows what may stand there

not-held : (n : Option ℕ) → held n none ≡ None
not-held (Some n) = refl
not-held None = refl

module _ {f g : ℕ → Line} {p q : RegType → Line} where
  by_field_lem : (field : Option Field) → ((n : ℕ) → f n ≡ g n) → ((place : RegType) → p place ≡ q place) → by_field f p field ≡ by_field g q field
  by_field_lem (Some (of_number n)) e d = e n
  by_field_lem (Some (of_place place)) e d = d place
  by_field_lem None e d = refl

pub by-none : (field : Option Field) → by_field none none field ≡ None
by-none (Some (of_number n)) = refl
by-none (Some (of_place place)) = refl
by-none None = refl

module _ (for_number : ℕ → Line) (for_place : RegType → Line) where
  itself_read : (n : Option ℕ) → held n for_number ≡ by_field for_number for_place (option_map of_number n)
  itself_read (Some n) = refl
  itself_read None = refl

  register-read : (n : Option ℕ) → held n (λ r. for_place (Temp r)) ≡ by_field for_number for_place (option_map (λ r. of_place (Temp r)) n)
  register-read (Some n) = refl
  register-read None = refl

  slot_read : (n : Option ℕ) → held n (λ r. for_place (Perm r)) ≡ by_field for_number for_place (option_map (λ slot. of_place (Perm slot)) n)
  slot_read (Some n) = refl
  slot_read None = refl

-- a letter in front makes no number
no_number_lem :
    (letter : ℕ) → is_digit letter ≡ false → (field : List ℕ) → same (take 1 field) (letter ∷ []) ≡ true
    → number_of field ≡ None
unfolding same number_of is_number all_digits
no_number_lem letter other [] h = absurd (false≢true h)
no_number_lem letter other (c ∷ cs) h =
    let e : c ≡ letter = eqb-true c letter (both_true (eqb c letter) true h).0 in
    simp (e, other, and-false)

alike :
    {A B : Type 0} (R : A → B → Type 0) (test : Bool) {a b : A} {c d : B} → R a c → R b d
    → R (if test then a else b) (if test then c else d)
alike R true p q = p
alike R false p q = q

module _ (field : List ℕ) where
  abbrev letter_is : List ℕ → Bool
  letter_is letter = same (take 1 field) letter

  abbrev behind_letter : Option ℕ
  behind_letter = number_of (drop 1 field)

  number_read : (for_number : ℕ → Line) → held (number_of field) for_number ≡ by_field for_number none (field_of field)
  unfolding field_of is_digit
  number_read for_number =
      let Same : Option Field → Type 0 = λ read. held (number_of field) for_number ≡ by_field for_number none read in
      by_test Same (letter_is (bytes "x"))
      (λ x. rw (no_number_lem (byte "x") refl field x) (sym (not-held behind_letter) ∙ register-read for_number none behind_letter))
      (λ h. by_test Same (letter_is (bytes "y"))
      (λ y. rw (no_number_lem (byte "y") refl field y) (sym (not-held behind_letter) ∙ slot_read for_number none behind_letter))
      (λ k. itself_read for_number none (number_of field)))

  place_read :
      (more : RegType → Behind) (fields : List (List ℕ))
      → a_place more (field ∷ fields) ≡ by_field none (λ place. more place fields) (field_of field)
  unfolding a_place field_of
  place_read more fields =
      let for_place : RegType → Line = λ place. more place fields in
      let Same : Line → Option Field → Type 0 = λ line read. line ≡ by_field none for_place read in
      alike Same (letter_is (bytes "x")) (register-read none for_place behind_letter)
      (alike Same (letter_is (bytes "y")) (slot_read none for_place behind_letter)
      (sym (not-held (number_of field)) ∙ itself_read none for_place (number_of field)))

-- ---- All fields: what each form says

-- two readings of the fields behind a word say the same
abbrev Agree : Behind → Behind → Type 0
Agree a b = (fields : List (List ℕ)) → a fields ≡ b fields

no_last : Agree (last_field None none) none
no_last [] = refl
no_last (field ∷ []) = not-held (number_of field)
no_last (field ∷ (next ∷ fields)) = refl

ended : (line : CheckLine) → Agree (last_field (Some line) none) (no_more line)
unfolding no_more
ended line [] = refl
ended line (field ∷ []) = not-held (number_of field)
ended line (field ∷ (next ∷ fields)) = refl

numbered : (line : ℕ → CheckLine) → Agree (last_field None (λ n. Some (line n))) (a_number (λ n. no_more (line n)))
unfolding no_more a_number
numbered line [] = refl
numbered line (field ∷ []) = refl
numbered line (field ∷ (next ∷ fields)) = sym (not-held (number_of field))

none_said : Agree (by_fields None none (λ k. none) none (λ place. none)) none
none_said [] = refl
none_said (field ∷ fields) = by_field_lem (field_of field) (λ v. no_last fields) (λ place. no_last fields) ∙ by-none (field_of field)

alone_said : (step : Step) → Agree (by_fields (Some (Begins step)) none (λ k. none) none (λ place. none)) (alone step)
unfolding no_more
alone_said step [] = refl
alone_said step (field ∷ fields) = none_said (field ∷ fields)

-- a number first
number_said :
    (deep : ℕ → Line) (step : ℕ → ℕ → Line) (more : ℕ → Behind) → ((n : ℕ) → Agree (last_field (deep n) (step n)) (more n))
    → Agree (by_fields None deep step none (λ place. none)) (a_number more)
unfolding a_number
number_said deep step more last [] = refl
number_said deep step more last (field ∷ fields) =
    by_field_lem (field_of field) (λ n. last n fields) (λ place. no_last fields) ∙ sym (number_read field (λ n. more n fields))

variable_said :
    (step : ℕ → Step) → Agree (by_fields None (λ v. Some (Begins (step v))) (λ k. none) none (λ place. none)) (variable step)
variable_said step = number_said _ _ _ (λ v. ended (Begins (step v)))

argument_said :
    (step : ℕ → ℕ → Step)
    → Agree (by_fields None none (λ k v. Some (Begins (step k v))) none (λ place. none)) (argument_and_variable step)
argument_said step = number_said _ _ _ (λ k. numbered (λ v. Begins (step k v)))

-- a place first
place_said :
    (placed : RegType → Line) (both : RegType → ℕ → Line) (more : RegType → Behind)
    → ((place : RegType) → Agree (last_field (placed place) (both place)) (more place))
    → Agree (by_fields None none (λ k. none) placed both) (a_place more)
unfolding a_place
place_said placed both more last [] = refl
place_said placed both more last (field ∷ fields) =
    by_field_lem (field_of field) (λ n. no_last fields) (λ place. last place fields) ∙ sym (place_read field more fields)

place_alone_said :
    (instruction : RegType → Instruction)
    → Agree (by_fields None none (λ k. none) (λ place. Some (Does (instruction place))) (λ place. none)) (place_alone instruction)
place_alone_said instruction = place_said _ _ _ (λ place. ended (Does (instruction place)))

place_argument_said :
    (instruction : RegType → ℕ → Instruction)
    → Agree (by_fields None none (λ k. none) none (λ place k. Some (Does (instruction place k)))) (place_and_argument instruction)
place_argument_said instruction = place_said _ _ _ (λ place. numbered (λ k. Does (instruction place k)))

unsafe_last :
    (place : RegType)
    → Agree (last_field None (unsafe_line place)) (slot_only (λ slot. a_number (λ k. no_more (Does (PutUnsafeValue slot k)))) place)
unsafe_last (Perm slot) = numbered (λ k. Does (PutUnsafeValue slot k))
unsafe_last (Temp r) = no_last

unsafe_said : Agree (by_fields None none (λ k. none) none unsafe_line) (slot_and_argument PutUnsafeValue)
unsafe_said = place_said _ _ _ unsafe_last

-- ---- The table, row by row

-- from a number on: the number of each row says what the row says, and a number behind the last row nothing
abbrev pub SaidFrom : ℕ → List WordRow → Type 0
SaidFrom first [] = (code : ℕ) → first ≤ code → Agree (said_by code) none
SaidFrom first ((word, behind) ∷ rows) = Agree (said_by first) behind × SaidFrom (suc first) rows

past_rows : (code : ℕ) → length line_words < code → Agree (said_by code) none
unfolding said_by no_field deep_step argument_step argument_instruction place_instruction
past_rows code h fields =
    let other : (n : ℕ) → leb n (length line_words) ≡ true → eqb code n ≡ false =
    λ n l. ne_eqb code n (λ e. omega (arith, leb-true n (length line_words) l)) in
    simp (other, deep_step, argument_step, argument_instruction, place_instruction) (none_said fields)

infixr 4 ◌and◌
abbrev ◌and◌ : {A B : Type 0} → A → B → A × B
a and b = (a, b)

pub rows_said : SaidFrom 1 line_words
unfolding said_by no_field deep_step argument_step argument_instruction place_instruction
rows_said =
    alone_said Call
    and variable_said HeadDeep
    and variable_said GoalDeep
    and argument_said Head
    and argument_said Goal
    and place_argument_said GetVariable
    and place_argument_said GetValue
    and place_argument_said PutVariable
    and place_argument_said PutValue
    and unsafe_said
    and place_alone_said SetVariable
    and place_alone_said SetValue
    and place_alone_said SetLocalValue
    and place_alone_said UnifyVariable
    and place_alone_said UnifyValue
    and place_alone_said UnifyLocalValue
    and past_rows

-- 0, the number of no word, says nothing, too
zero_said : Agree (said_by 0) none
unfolding said_by no_field deep_step argument_step argument_instruction place_instruction
zero_said = none_said

among_said :
    (first : ℕ) (rows : List WordRow) → SaidFrom first rows → (word : List ℕ)
    → Agree (said_by (code_among first (words_of rows) word)) (said_among rows word)
unfolding code_among said_among
among_said first [] said word fields = zero_said fields
among_said first ((known, behind) ∷ rows) said word fields =
    elim (same word known) as
    (λ t. said_by (if t then first else code_among (suc first) (words_of rows) word) fields
    ≡ (if t then behind fields else said_among rows word fields))
    [ true ↦ said.0 fields | false ↦ among_said (suc first) rows said.1 word fields ]

-- so the number of a word says what the table says of the word
pub word_said : (word : List ℕ) (fields : List (List ℕ)) → said_by (word_code word) fields ≡ said_among line_words word fields
unfolding word_code
word_said word = among_said 1 line_words rows_said word

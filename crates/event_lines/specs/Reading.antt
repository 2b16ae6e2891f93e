-- How the code reads a line: by the number of its word, a range of numbers after the other. No reader has to believe it:
-- `read_at` in RowLaws says that each number is read as its row of the table says.
use Rattle.std.specs.Prelude.{ℕ, suc, List, [], ◌∷◌, map, eqb, leb, length, drop, Option, Some, None}
use Rattle.std.specs.Prelude.{if◌then◌else◌}
use Rattle.words.specs.Words.{code_among}
use Rattle.numbers.specs.Numbers.{number_of}
use Rattle.forms.specs.declared.GenContext.{GenContext}
use Rattle.forms.specs.declared.Level.{Level}
use Rattle.targets.specs.declared.Target.{Target}
use Rattle.events.specs.declared.Entries.{Entries}
use Rattle.events.specs.declared.Entries.TheVariants.{Uses, Arguments, Variables}
use Rattle.events.specs.declared.Event.{Event}
use Rattle.events.specs.declared.Event.TheVariants.{Temp, Perm, Sets, Head, Args, Var, Anon, NonVar, Cut, Incr, Free, Safe, Give, Tail, Next, Open, Arm, Take, Close, Reset, Contents, ClearFree}
use Rattle.event_lines.specs.LineForms.{Line, saying, Form, end_says, number, target, level, context, all_entries, leading, list, uses_in, uses_field}
use Rattle.event_lines.specs.Words.{Word, line_words}
use Rattle.event_lines.specs.EventLines.{no_word}

-- ---- Numbers of words

abbrev pub spellings : List Word → List (List ℕ)
spellings words = map (λ (word : Word). word.spelled) words

unfoldable pub word_code : List ℕ → ℕ
word_code field = code_among 1 (spellings line_words) field

-- the words behind those that stand alone
abbrev pub number_words : List (List ℕ)
number_words = drop 6 (spellings line_words)

-- and behind those with one number or two
abbrev pub other_words : List (List ℕ)
other_words = drop 15 (spellings line_words)

-- the word of a number among words that are numbered from `first` on
unfoldable pub word_from : ℕ → List Word → ℕ → Word
word_from first [] code = no_word
word_from first (word ∷ words) code = if eqb code first then word else word_from (suc first) words code

unfoldable pub word_at : ℕ → Word
word_at code = word_from 1 line_words code

-- ---- Fields that are numbers, so many and no more

unfoldable pub one_number : List (List ℕ) → Option ℕ
one_number [] = None
one_number (field ∷ []) = number_of field
one_number (field ∷ (next ∷ fields)) = None

abbrev pub paired : Option ℕ → Option ℕ → Option (ℕ × ℕ)
paired (Some a) (Some b) = Some (a, b)
paired (Some a) None = None
paired None second = None

unfoldable pub two_numbers : List (List ℕ) → Option (ℕ × ℕ)
two_numbers [] = None
two_numbers (field ∷ fields) = paired (number_of field) (one_number fields)

abbrev pub tripled : Option ℕ → Option (ℕ × ℕ) → Option (ℕ × ℕ × ℕ)
tripled (Some a) (Some (b, c)) = Some (a, b, c)
tripled (Some a) None = None
tripled None others = None

unfoldable pub three_numbers : List (List ℕ) → Option (ℕ × ℕ × ℕ)
three_numbers [] = None
three_numbers (field ∷ fields) = tripled (number_of field) (two_numbers fields)

-- ---- Words that stand alone, and words with numbers

-- what a number says among events that are numbered from `first` on; nothing where it is none of theirs
unfoldable pub event_among : ℕ → List Event → ℕ → Line
event_among first [] code = None
event_among first (event ∷ events) code = if eqb code first then saying event 0 else event_among (suc first) events code

abbrev pub bare_said : ℕ → Line
bare_said code = event_among 1 (Sets ∷ Next ∷ Take ∷ Reset ∷ Contents ∷ ClearFree ∷ []) code

unfoldable pub bare_line : ℕ → List (List ℕ) → Line
bare_line code [] = bare_said code
bare_line code (field ∷ fields) = None

abbrev pub one_said : ℕ → ℕ → Line
one_said code n = event_among 7 (Perm n ∷ Args n ∷ Incr n ∷ Safe n ∷ Give n ∷ Tail n ∷ []) code

abbrev pub with_one : ℕ → Option ℕ → Line
with_one code (Some n) = one_said code n
with_one code None = None

abbrev pub two_said : ℕ → ℕ → ℕ → Line
two_said code a b = event_among 13 (Cut a b ∷ Free a b ∷ Arm a b ∷ []) code

abbrev pub with_two : ℕ → Option (ℕ × ℕ) → Line
with_two code (Some (a, b)) = two_said code a b
with_two code None = None

abbrev pub with_three : Option (ℕ × ℕ × ℕ) → Line
with_three (Some (start, span, arms)) = saying (Open start span arms) 0
with_three None = None

-- ---- Terms

abbrev pub var_line : Target → Level → GenContext → Option ℕ → Line
var_line target' level' context' (Some v) = saying (Var target' level' context' v) 0
var_line target' level' context' None = None

abbrev pub anon_line : Target → Level → GenContext → List (List ℕ) → Line
anon_line target level context fields = end_says (Anon target level context) fields

abbrev pub non_var_line : Level → GenContext → Option ℕ → Line
non_var_line level' context' (Some cell) = saying (NonVar level' context' cell) 0
non_var_line level' context' None = None

unfoldable pub mark_of : ℕ → Target → Level → GenContext → List (List ℕ) → Line
mark_of code target level context fields =
    if eqb code 17 then var_line target level context (one_number fields)
    else if eqb code 18 then anon_line target level context fields
    else if eqb code 19 then non_var_line level context (one_number fields) else None

-- what stands behind target, level and context
abbrev pub behind_place : ℕ → Form (Target × Level × GenContext)
behind_place code =
    record { says = λ place fields. mark_of code place.0 place.1 place.2 fields; entries = λ fields. [] }

abbrev pub mark_line : ℕ → List (List ℕ) → Line
mark_line code fields = (target (level (context (behind_place code)))).says (λ t l c. (t, l, c)) fields

-- ---- Lists

unfoldable pub counted : Entries → List (List ℕ) → Option ℕ
counted entries parts = if all_entries entries parts then Some (length parts) else None

unfoldable pub uses_count : List (List ℕ) → Option ℕ
uses_count [] = None
uses_count (field ∷ []) = counted Uses (uses_in field)
uses_count (field ∷ (next ∷ fields)) = None

abbrev pub temp_line : List (List ℕ) → Line
temp_line fields = (context (number uses_field)).says Temp fields

abbrev pub temp_list : List (List ℕ) → List ℕ
temp_list fields = (context (number uses_field)).entries fields

abbrev pub headed : Option ℕ → Line
headed (Some n) = saying Head n
headed None = None

abbrev pub close_line : List (List ℕ) → Line
close_line fields = (number (list Variables)).says Close fields

abbrev pub close_list : List (List ℕ) → List ℕ
close_list fields = (number (list Variables)).entries fields

unfoldable pub list_line : ℕ → List (List ℕ) → Line
list_line code fields =
    if eqb code 20 then temp_line fields
    else if eqb code 21 then headed (counted Arguments fields)
    else if eqb code 22 then close_line fields else None

-- ---- All lines, by the number of the word

unfoldable pub said_by : ℕ → List (List ℕ) → Line
said_by code fields =
    if leb code 6 then bare_line code fields
    else if leb code 12 then with_one code (one_number fields)
    else if leb code 15 then with_two code (two_numbers fields)
    else if leb code 16 then with_three (three_numbers fields)
    else if leb code 19 then mark_line code fields else list_line code fields

unfoldable pub entries_by : ℕ → List (List ℕ) → List ℕ
entries_by code fields =
    if eqb code 20 then temp_list fields
    else if eqb code 21 then leading Arguments fields
    else if eqb code 22 then close_list fields else []

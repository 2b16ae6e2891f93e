-- The code's matches say what the table says: each number is read as its row says, and so a line as the row of its word.
use Rattle.std.specs.Prelude.{ℕ, zero, suc, ◌≡◌, refl, List, [], ◌∷◌, length, take, drop, Option, Some, None, option_and_then}
use Rattle.std.proofs.Math.Path.{sym, ap, fun_ext}
use Rattle.std.proofs.Common.{◌∙◌, arith}
use Rattle.split.specs.Split.{tab, before, split}
use Rattle.split.specs.SplitLaws.{take-before}
use Rattle.numbers.specs.Numbers.{number_of}
use Rattle.fields.specs.Fields.{fields_left}
use Rattle.fields.specs.FieldsLaws.{line_fields}
use Rattle.forms.specs.declared.GenContext.{GenContext}
use Rattle.forms.specs.declared.Level.{Level}
use Rattle.targets.specs.declared.Target.{Target}
use Rattle.events.specs.declared.Entries.TheVariants.{Arguments}
use Rattle.events.specs.declared.Event.{Event}
use Rattle.events.specs.declared.Event.TheVariants.{Perm, Sets, Head, Args, Var, Anon, NonVar, Cut, Incr, Free, Safe, Give, Tail, Next, Open, Arm, Take, Reset, Contents, ClearFree}
use Rattle.event_lines.specs.LineForms.{Line, saying, Form, end_says, end, field_says, number, target, level, context}
use Rattle.event_lines.specs.Words.{Word, line_words}
use Rattle.event_lines.specs.EventLines.{fields_say, fields_list}
use Rattle.event_lines.specs.Reading.{word_code, word_from, word_at, one_number, paired, two_numbers, tripled, three_numbers, event_among, bare_said, bare_line, with_one, with_two, with_three, var_line, non_var_line, mark_of, mark_line, headed, list_line, said_by, entries_by}
use Rattle.event_lines.specs.ReadLaws.{counted-read, said_unknown, said_past, no_entries}
use Rattle.event_lines.specs.WordsLaws.{Each, ◌&◌, from_each, word_at_lem}

-- ---- Words that stand alone, and words with numbers

bare_read : (code : ℕ) (event : Event) → bare_said code ≡ saying event 0 → (fields : List (List ℕ)) → bare_line code fields ≡ end_says event fields
unfolding bare_line end_says
bare_read code event said [] = said
bare_read code event said (field ∷ fields) = refl

one-read :
    (line : Option ℕ → Line) (event : ℕ → Event) → ((n : ℕ) → line (Some n) ≡ saying (event n) 0) → line None ≡ None
    → (fields : List (List ℕ)) → line (one_number fields) ≡ (number end).says event fields
unfolding one_number field_says end_says
one-read line event some none [] = none
one-read line event some none (field ∷ []) =
    elim (number_of field) as (λ m. line m ≡ option_and_then (λ n. end_says (event n) []) m) [ Some n ↦ some n | None ↦ none ]
one-read line event some none (field ∷ (next ∷ fields)) =
    elim (number_of field) as (λ m. line None ≡ option_and_then (λ n. end_says (event n) (next ∷ fields)) m)
    [ Some n ↦ none | None ↦ none ]

two_read :
    (line : Option (ℕ × ℕ) → Line) (event : ℕ → ℕ → Event) → ((a b : ℕ) → line (Some (a, b)) ≡ saying (event a b) 0) → line None ≡ None
    → (fields : List (List ℕ)) → line (two_numbers fields) ≡ (number (number end)).says event fields
unfolding two_numbers field_says
two_read line event some none [] = none
two_read line event some none (field ∷ fields) =
    elim (number_of field) as (λ m. line (paired m (one_number fields)) ≡ option_and_then (λ a. (number end).says (event a) fields) m) [
      | Some a ↦ one-read (λ m. line (paired (Some a) m)) (event a) (some a) none fields
      | None ↦ none
    ]

three_read : (fields : List (List ℕ)) → with_three (three_numbers fields) ≡ (number (number (number end))).says Open fields
unfolding three_numbers field_says
three_read [] = refl
three_read (field ∷ fields) =
    elim (number_of field) as
    (λ m. with_three (tripled m (two_numbers fields)) ≡ option_and_then (λ a. (number (number end)).says (Open a) fields) m) [
      | Some a ↦ two_read (λ m. with_three (tripled (Some a) m)) (Open a) (λ b c. refl) refl fields
      | None ↦ refl
    ]

-- ---- Terms

-- a field and what is the same behind it
field-same :
    {A B C : Type 0} (read : List ℕ → Option C) (here : Form A) (there : Form B) (event : C → A) (event' : C → B)
    → ((c : C) (fields : List (List ℕ)) → here.says (event c) fields ≡ there.says (event' c) fields) → (fields : List (List ℕ))
    → field_says read here event fields ≡ field_says read there event' fields
unfolding field_says
field-same read here there event event' same [] = refl
field-same read here there event event' same (field ∷ fields) = ap (λ behind. option_and_then behind (read field)) (fun_ext (λ c. same c fields))

mark_read :
    {A : Type 0} (others : Form A) (event : Target → Level → GenContext → A) (code : ℕ)
    → ((t : Target) (l : Level) (c : GenContext) (fields : List (List ℕ)) → mark_of code t l c fields ≡ others.says (event t l c) fields)
    → (fields : List (List ℕ)) → mark_line code fields ≡ (target (level (context others))).says event fields
mark_read others event code said =
    field-same _ _ _ _ event (λ t. field-same _ _ _ _ (event t) (λ l. field-same _ _ _ _ (event t l) (λ c. said t l c)))

-- ---- Each number

-- the number is read as the word says
abbrev pub Read : ℕ → Word → Type 0
Read code word =
    ((fields : List (List ℕ)) → said_by code fields ≡ word.says fields)
    × ((fields : List (List ℕ)) → entries_by code fields ≡ word.entries fields)

no_list : (fields : List (List ℕ)) → ◌≡◌ {A = List ℕ} [] []
no_list fields = refl

rows-read : Each Read 1 line_words
unfolding line_words said_by entries_by event_among mark_of list_line
rows-read =
    (bare_read 1 Sets refl, no_list)
    & (bare_read 2 Next refl, no_list)
    & (bare_read 3 Take refl, no_list)
    & (bare_read 4 Reset refl, no_list)
    & (bare_read 5 Contents refl, no_list)
    & (bare_read 6 ClearFree refl, no_list)
    & (one-read (with_one 7) Perm (λ n. refl) refl, no_list)
    & (one-read (with_one 8) Args (λ n. refl) refl, no_list)
    & (one-read (with_one 9) Incr (λ n. refl) refl, no_list)
    & (one-read (with_one 10) Safe (λ n. refl) refl, no_list)
    & (one-read (with_one 11) Give (λ n. refl) refl, no_list)
    & (one-read (with_one 12) Tail (λ n. refl) refl, no_list)
    & (two_read (with_two 13) Cut (λ a b. refl) refl, no_list)
    & (two_read (with_two 14) Free (λ a b. refl) refl, no_list)
    & (two_read (with_two 15) Arm (λ a b. refl) refl, no_list)
    & (three_read, no_list)
    & (mark_read (number end) Var 17 (λ t l c. one-read (var_line t l c) (Var t l c) (λ v. refl) refl), no_list)
    & (mark_read end Anon 18 (λ t l c fields. refl), no_list)
    & (mark_read (number end) (λ t. NonVar) 19 (λ t l c. one-read (non_var_line l c) (NonVar l c) (λ n. refl) refl), no_list)
    & (λ fields. refl, λ fields. refl)
    & (counted-read headed Head (λ n. refl) refl Arguments, λ fields. refl)
    & (λ fields. refl, λ fields. refl)
    & tt

-- every number is read as the row of that number says; one of no row as no word
pub read_at : (code : ℕ) → Read code (word_at code)
unfolding word_at word_from line_words
read_at zero = (λ fields. said_unknown zero fields refl, λ fields. no_entries zero fields (λ l. omega arith))
read_at (suc n) =
    from_each Read 1 line_words rows-read (suc n) (omega arith)
    (λ past. (λ fields. said_past (suc n) fields (omega arith), λ fields. no_entries (suc n) fields (λ l. omega arith)))

-- ---- A line

module _ (word : List ℕ) (fields : List (List ℕ)) where
  word_said : fields_say (word ∷ fields) ≡ said_by (word_code word) fields
  unfolding fields_say
  word_said = ap (λ (w : Word). w.says fields) (word_at_lem word) ∙ sym ((read_at (word_code word)).0 fields)

  word-listed : fields_list (word ∷ fields) ≡ entries_by (word_code word) fields
  unfolding fields_list
  word-listed = ap (λ (w : Word). w.entries fields) (word_at_lem word) ∙ sym ((read_at (word_code word)).1 fields)

pub line_step_lem : (line : List ℕ) → fields_say (split tab line) ≡ said_by (word_code (take (length (before tab line)) line)) (fields_left tab (drop (length (before tab line)) line))
line_step_lem line = rw (line_fields line, take-before tab line) (word_said (before tab line) (fields_left tab (drop (length (before tab line)) line)))

pub line_list-step : (line : List ℕ) → fields_list (split tab line) ≡ entries_by (word_code (take (length (before tab line)) line)) (fields_left tab (drop (length (before tab line)) line))
line_list-step line = rw (line_fields line, take-before tab line) (word-listed (before tab line) (fields_left tab (drop (length (before tab line)) line)))

-- What a line of an event sheet says, and the entries of its list: rules 2.2, 2.4, 4.1.
use Rattle.std.specs.Prelude.{ℕ, List, [], ◌∷◌, None}
use Rattle.std.specs.Prelude.{if◌then◌else◌}
use Rattle.split.specs.Split.{tab, split}
use Rattle.words.specs.Words.{same}
use Rattle.event_lines.specs.LineForms.{Line}
use Rattle.event_lines.specs.Words.{Word, line_words}

-- rules 2.4, 4.1: what is none of the words makes no line
abbrev pub no_word : Word
no_word = record { spelled = []; says = λ fields. None; entries = λ fields. [] }

unfoldable pub word_among : List Word → List ℕ → Word
word_among [] field = no_word
word_among (word ∷ words) field = if same field word.spelled then word else word_among words field

-- rule 2.2: a line is its fields, of which the first is its word
unfoldable pub fields_say : List (List ℕ) → Line
fields_say [] = None
fields_say (field ∷ fields) = (word_among line_words field).says fields

unfoldable pub fields_list : List (List ℕ) → List ℕ
fields_list [] = []
fields_list (field ∷ fields) = (word_among line_words field).entries fields

unfoldable pub line_says : List ℕ → Line
line_says line = fields_say (split tab line)

unfoldable pub line_list : List ℕ → List ℕ
line_list line = fields_list (split tab line)

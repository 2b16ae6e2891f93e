-- What a line of a check sheet says: rules 2.2, 2.4, 4.1, 19.1, 19.2.
use Rattle.std.specs.Prelude.{ℕ, List, [], ◌∷◌, None}
use Rattle.std.specs.Prelude.{if◌then◌else◌}
use Rattle.split.specs.Split.{tab, split}
use Rattle.words.specs.Words.{same}
use Rattle.check_lines.specs.Behind.{Line, Behind}
use Rattle.check_lines.specs.Words.{WordRow, line_words}

-- by the row of the word; a word that has none makes no line
unfoldable pub said_among : List WordRow → List ℕ → Behind
said_among [] word fields = None
said_among ((known, behind) ∷ rows) word fields = if same word known then behind fields else said_among rows word fields

unfoldable pub fields_say : List (List ℕ) → Line
fields_say [] = None
fields_say (word ∷ fields) = said_among line_words word fields

unfoldable pub line_says : List ℕ → Line
line_says line = fields_say (split tab line)

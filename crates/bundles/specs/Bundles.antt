-- The whole answer to a bundle, for every list of bytes and every room: rules 1.1, 18.1 to 18.4, 18.6, 18.7.
use Rattle.std.specs.Prelude.{ℕ, ◌-◌, Bool, false, not, ◌&&◌, ◌||◌, List, [], ◌∷◌, ◌++◌, eqb, ltb, length, get_or, take, Option, Some, None}
use Rattle.std.specs.Prelude.{if◌then◌else◌}
use Rattle.notation.specs.Text.{bytes}
use Rattle.refusals.specs.declared.Refusal.{Refusal}
use Rattle.refusals.specs.Refusals.{number_of as refusal_number, accepted, refused_form, refused_order, refused_full}
use Rattle.sizes.specs.Sizes.{sheet_bytes}
use Rattle.split.specs.Split.{tab, line_feed, before, split}
use Rattle.words.specs.Words.{same}
use Rattle.answered.specs.Answered.{Answered, filled_by, refusal_text}
use Rattle.event_sheets.specs.EventSheets.{Ran, refused_at, sheet_ran, answered_by}

-- ---- Lines, and the clauses among them

-- rule 2.1: the parts that end in LF, all but the last, which is what stands behind the last LF
unfoldable pub lines_of : List ℕ → List (List ℕ)
lines_of bundle = take (length (split line_feed bundle) - 1) (split line_feed bundle)

abbrev pub clause_word : List ℕ
clause_word = bytes "clause"

-- rule 18.1: its word is `clause`, byte for byte
unfoldable pub is_clause : List ℕ → Bool
is_clause line = same (before tab line) clause_word

-- the lines before the first whose word is `clause`
unfoldable pub until_clause : List (List ℕ) → List (List ℕ)
until_clause [] = []
until_clause (line ∷ lines) = if is_clause line then [] else line ∷ until_clause lines

-- rule 18.1: of each clause its lines
unfoldable pub clauses : List (List ℕ) → List (List (List ℕ))
clauses [] = []
clauses (line ∷ lines) = if is_clause line then until_clause lines ∷ clauses lines else clauses lines

-- ---- What is printed: the texts of the clauses in their order (rule 18.3)

-- rule 18.2: the event sheet of these lines
unfoldable pub sheet_of : List (List ℕ) → List ℕ
sheet_of [] = []
sheet_of (line ∷ lines) = line ++ (line_feed ∷ sheet_of lines)

-- rules 18.4, 18.7: of a sheet that is refused only its `no` line
abbrev pub told_or : ℕ → Option Refusal → List ℕ → List ℕ
told_or line (Some refusal) text = refusal_text line (refusal_number refusal)
told_or line None text = text

unfoldable pub ran_text : Ran → List ℕ
ran_text r = told_or r.line r.refusal r.text

unfoldable pub clause_text : List (List ℕ) → List ℕ
clause_text lines = ran_text (sheet_ran (sheet_of lines))

unfoldable pub clause_texts : List (List (List ℕ)) → List ℕ
clause_texts [] = []
clause_texts (lines ∷ others) = clause_text lines ++ clause_texts others

-- ---- Refusals of the whole bundle, in the order of rule 18.6

-- the last byte, where there is one, is no LF
unfoldable pub is_unended : List ℕ → Bool
is_unended bundle = not (eqb (get_or bundle (length bundle - 1) line_feed) line_feed)

-- some line belongs to no clause
unfoldable pub is_stray : List (List ℕ) → Bool
is_stray lines = ltb 0 (length (until_clause lines))

-- behind the word `clause` stands a tab, so a field, be it empty
unfoldable pub is_more : List ℕ → Bool
is_more line = is_clause line && not (same line clause_word)

unfoldable pub has_more : List (List ℕ) → Bool
has_more [] = false
has_more (line ∷ lines) = is_more line || has_more lines

abbrev pub all_ran : List ℕ → Ran
all_ran text = record { text = text; line = 0; refusal = accepted }

unfoldable pub bundle_ran : List ℕ → Ran
bundle_ran bundle =
    if ltb sheet_bytes (length bundle) then refused_at 0 refused_full
    else if is_unended bundle then refused_at 0 refused_form
    else if is_stray (lines_of bundle) then refused_at 0 refused_order
    else if has_more (lines_of bundle) then refused_at 0 refused_form
    else all_ran (clause_texts (clauses (lines_of bundle)))

-- ---- The answer: room last

unfoldable pub answered : List ℕ → ℕ → Answered
answered bundle room = answered_by (bundle_ran bundle) room

unfoldable pub filled : List ℕ → List ℕ → List ℕ
filled bundle out = filled_by (answered bundle (length out)) (bundle_ran bundle).text out

-- Laws of lines for who reads a sheet: where a line says something, the first entries of the list are the line's.
use Rattle.std.specs.Prelude.{ℕ, suc, ◌+◌, ◌≤◌, ◌≡◌, refl, true, ◌&&◌, length, take, drop, Option, Some, None, is_some, option_and_then}
use Rattle.std.proofs.Common.{zero-le, suc-le-suc, ap, sym, ◌∙◌, arith, length-append, take-take}
use Rattle.std.proofs.lemmas.Bool.{false≢true}
use Rattle.std.proofs.lemmas.Option.{same_Some}
use mathlib.Core.List.{List, [], ◌∷◌, ◌++◌}
use Rattle.std.proofs.Math.Seq.{take-append_seam}
use Rattle.notation.specs.ChoiceLaws.{either, by_test}
use Rattle.notation.specs.Text.{bytes}
use Rattle.split.specs.Split.{tab, split, joined}
use Rattle.split.specs.SplitLaws.{split_le}
use Rattle.split.specs.SplitTrips.{joined-split}
use Rattle.words.specs.Words.{same}
use Rattle.printing.specs.Printing.{printed}
use Rattle.events.specs.declared.Entries.{Entries}
use Rattle.events.specs.declared.Entries.TheVariants.{Uses, Arguments, Variables}
use Rattle.events.specs.declared.Event.{Event}
use Rattle.event_fields.specs.EventFields.{entry_of}
use Rattle.event_lines.specs.declared.Said.{Said}
use Rattle.event_lines.specs.LineForms.{Line, saying, Form, end_says, end, field_says, field_and, number, target, level, context, all_entries, list_says, in_front_of, leading, list, comma, uses_in, uses_say, uses_list, uses_field}
use Rattle.event_lines.specs.Words.{Word, word, line_words}
use Rattle.event_lines.specs.EventLines.{word_among, fields_say, fields_list, line_says, line_list}
use Rattle.event_lines.specs.WordsLaws.{Each, ◌&◌, among-each}

entries_same : {event event' : Event} {k n : ℕ} → saying event k ≡ saying event' n → k ≡ n
entries_same e = ap (λ (said : Said). said.entries) (same_Some _ _ e)

-- whatever a line says, it counts so many entries
abbrev Counts : Line → ℕ → Type 0
Counts line k = (event : Event) (n : ℕ) → line ≡ saying event n → n ≡ k

never : (k : ℕ) → Counts None k
never k event n e = let z : ◌≡◌ {A = ℕ} 0 1 = cc in absurd (omega arith)

says : (event : Event) (k : ℕ) → Counts (saying event k) k
says event k event' n e = sym (entries_same e)

-- the bytes of the fields behind a word, each with the tab before it
abbrev width : List (List ℕ) → ℕ
width [] = 0
width (field ∷ fields) = suc (length field + width fields)

-- a line of this form counts as many entries as its list has, and these are no more than the fields have bytes
record Lists {A : Type 0} (form : Form A) : Type 0 where
  counts : (event : A) (fields : List (List ℕ)) → Counts (form.says event fields) (length (form.entries fields))
  short : (fields : List (List ℕ)) → length (form.entries fields) ≤ width fields

-- ---- One field after the other

end-counts : (event : Event) (fields : List (List ℕ)) → Counts (end_says event fields) 0
unfolding end_says
end-counts event [] = says event 0
end-counts event (field ∷ fields) = never 0

end-lists : Lists end
end-lists = record { counts = end-counts; short = λ fields. zero-le }

and_then-counts :
    {B : Type 0} (o : Option B) (line : B → Line) (k : ℕ) → ((b : B) → Counts (line b) k) → Counts (option_and_then line o) k
and_then-counts (Some b) line k p = p b
and_then-counts None line k p = never k

module _ {A B : Type 0} (read : List ℕ → Option B) (others : Form A) (lists : Lists others) where
  field-counts : (event : B → A) (fields : List (List ℕ)) → Counts (field_says read others event fields) (length ((field_and read others).entries fields))
  unfolding field_says
  field-counts event [] = never _
  field-counts event (field ∷ fields) = and_then-counts (read field) _ _ (λ b. lists.counts (event b) fields)

  field_short : (fields : List (List ℕ)) → length ((field_and read others).entries fields) ≤ width fields
  field_short [] = lists.short []
  field_short (field ∷ fields) = omega (arith, lists.short fields)

  field-lists : Lists (field_and read others)
  field-lists = record { counts = field-counts; short = field_short }

module _ {A : Type 0} {others : Form A} (lists : Lists others) where
  number-lists : Lists (number others)
  number-lists = field-lists _ others lists

  target-lists : Lists (target others)
  target-lists = field-lists _ others lists

  level-lists : Lists (level others)
  level-lists = field-lists _ others lists

  context-lists : Lists (context others)
  context-lists = field-lists _ others lists

-- ---- Lists

all_lead :
    (entries : Entries) (parts : List (List ℕ)) → all_entries entries parts ≡ true → length parts ≡ length (leading entries parts)
unfolding all_entries leading
all_lead entries [] h = refl
all_lead entries (part ∷ parts) h =
    (elim (entry_of entries part) as
    (λ m. (is_some m && all_entries entries parts) ≡ true → suc (length parts) ≡ length (in_front_of m (leading entries parts)))
    [ Some n ↦ λ e. ap suc (all_lead entries parts e) | None ↦ λ e. absurd (false≢true e) ])
    h

list_counts : (entries : Entries) (event : Event) (parts : List (List ℕ)) → Counts (list_says entries event parts) (length (leading entries parts))
unfolding list_says
list_counts entries event parts =
    by_test (λ line. Counts line (length (leading entries parts))) (all_entries entries parts)
    (λ h event' n e. sym (entries_same e) ∙ all_lead entries parts h)
    (λ h. never _)

leading_le : (entries : Entries) (parts : List (List ℕ)) → length (leading entries parts) ≤ length parts
unfolding leading
leading_le entries [] = zero-le
leading_le entries (part ∷ parts) =
    elim (entry_of entries part) as (λ m. length (in_front_of m (leading entries parts)) ≤ suc (length parts))
    [ Some n ↦ suc-le-suc (leading_le entries parts) | None ↦ zero-le ]

fields_le_width : (fields : List (List ℕ)) → length fields ≤ width fields
fields_le_width [] = zero-le
fields_le_width (field ∷ fields) = omega (arith, fields_le_width fields)

list-lists : (entries : Entries) → Lists (list entries)
list-lists entries =
    record {
      counts = list_counts entries;
      short = λ fields. omega (arith, leading_le entries fields, fields_le_width fields);
    }

uses_count_lem : (event : Event) (fields : List (List ℕ)) → Counts (uses_say event fields) (length (uses_list fields))
unfolding uses_say uses_list
uses_count_lem event [] = never 0
uses_count_lem event (field ∷ []) = list_counts Uses event (uses_in field)
uses_count_lem event (field ∷ (next ∷ fields)) = never 0

uses_in_le : (field : List ℕ) → length (uses_in field) ≤ suc (length field)
unfolding uses_in
uses_in_le field = either (λ (parts : List (List ℕ)). length parts ≤ suc (length field)) (same field (bytes "-")) zero-le (split_le comma field)

uses_short : (fields : List (List ℕ)) → length (uses_list fields) ≤ width fields
unfolding uses_list
uses_short [] = zero-le
uses_short (field ∷ []) = omega (arith, leading_le Uses (uses_in field), uses_in_le field)
uses_short (field ∷ (next ∷ fields)) = zero-le

uses-lists : Lists uses_field
uses-lists = record { counts = uses_count_lem; short = uses_short }

-- ---- All words

abbrev WordLists : Word → Type 0
WordLists word =
    ((fields : List (List ℕ)) → Counts (word.says fields) (length (word.entries fields)))
    × ((fields : List (List ℕ)) → length (word.entries fields) ≤ width fields)

word-lists : {A : Type 0} {form : Form A} → Lists form → (event : A) → WordLists (word [] form event)
word-lists lists event = (lists.counts event, lists.short)

rows-list : Each (λ code. WordLists) 1 line_words
unfolding line_words
rows-list =
    word-lists end-lists _
    & word-lists end-lists _
    & word-lists end-lists _
    & word-lists end-lists _
    & word-lists end-lists _
    & word-lists end-lists _
    & word-lists (number-lists end-lists) _
    & word-lists (number-lists end-lists) _
    & word-lists (number-lists end-lists) _
    & word-lists (number-lists end-lists) _
    & word-lists (number-lists end-lists) _
    & word-lists (number-lists end-lists) _
    & word-lists (number-lists (number-lists end-lists)) _
    & word-lists (number-lists (number-lists end-lists)) _
    & word-lists (number-lists (number-lists end-lists)) _
    & word-lists (number-lists (number-lists (number-lists end-lists))) _
    & word-lists (target-lists (level-lists (context-lists (number-lists end-lists)))) _
    & word-lists (target-lists (level-lists (context-lists end-lists))) _
    & word-lists (target-lists (level-lists (context-lists (number-lists end-lists)))) _
    & word-lists (context-lists (number-lists uses-lists)) _
    & word-lists (list-lists Arguments) _
    & word-lists (number-lists (list-lists Variables)) _
    & tt

among-lists : (field : List ℕ) → WordLists (word_among line_words field)
among-lists = among-each WordLists 1 line_words rows-list (λ fields. never 0, λ fields. zero-le)

fields_count : (fields : List (List ℕ)) → Counts (fields_say fields) (length (fields_list fields))
unfolding fields_say fields_list
fields_count [] = never 0
fields_count (word ∷ fields) = (among-lists word).0 fields

line-counts : (line : List ℕ) → Counts (line_says line) (length (line_list line))
unfolding line_says line_list
line-counts line = fields_count (split tab line)

-- ---- A line has no more entries than bytes

joined-width : (word : List ℕ) (fields : List (List ℕ)) → length (joined tab (word ∷ fields)) ≡ length word + width fields
unfolding joined
joined-width word [] = omega arith
joined-width word (field ∷ fields) = omega (arith, length-append word (tab ∷ joined tab (field ∷ fields)), joined-width field fields)

fields_le : (fields : List (List ℕ)) → length (fields_list fields) ≤ length (joined tab fields)
unfolding fields_list
fields_le [] = zero-le
fields_le (word ∷ fields) = omega (arith, (among-lists word).1 fields, joined-width word fields)

pub list_le : (line : List ℕ) → length (line_list line) ≤ length line
unfolding line_list
list_le line = omega (arith, fields_le (split tab line), ap length (joined-split tab line))

-- ---- The entries stand first in the lent list

put-taken : (list text : List ℕ) → length text ≤ length list → take (length text) (printed list 0 text) ≡ text
unfolding printed
put-taken list text h =
    take-take (length text) (length list) (text ++ drop (0 + length text) list) h
    ∙ take-append_seam text (drop (0 + length text) list)

-- where a line says something, as many cells as it counts are its entries
pub list_read :
    (line list : List ℕ) (event : Event) (n : ℕ) → length (line_list line) ≤ length list → line_says line ≡ saying event n
    → (take n (printed list 0 (line_list line)) ≡ line_list line) × (n ≡ length (line_list line))
list_read line list event n room said =
    let count = line-counts line event n said in (
      ap (λ (k : ℕ). take k (printed list 0 (line_list line))) count
          ∙ put-taken list (line_list line) room,
      count,
    )

-- Laws of reading, a field at a time. Where no field is left, the next one is taken to be empty, and says nothing either.
use Rattle.std.specs.Prelude.{ℕ, ◌+◌, ◌-◌, ◌≤◌, ◌<◌, ◌≡◌, refl, leb, ltb, length, take, drop, set, Option, Some, None, option_map, option_and_then}
use Rattle.std.proofs.Common.{sym, ap, ◌∙◌, arith, length-drop, drop_of_length-le, take_all}
use Rattle.std.proofs.Math.Bool.{true, false}
use mathlib.Core.List.{List, [], ◌∷◌, tail}
use Rattle.std.proofs.Math.Seq.{take-nil, drop-nil, set_out}
use borrow.Author.Tests.{le-leb, lt-leb, leb-true, leb-false, ltb-true, ltb-false, ne_eqb}
use Rattle.std.specs.Prelude.{if◌then◌else◌}
use Rattle.notation.specs.Text.{bytes}
use Rattle.split.specs.Split.{tab, split}
use Rattle.words.specs.Words.{same}
use Rattle.numbers.specs.Numbers.{number_of}
use Rattle.numbers.specs.ReadLaws.{number-empty}
use Rattle.fields.specs.Fields.{field_end, fields_left}
use Rattle.fields.specs.FieldsLaws.{left_none, left_some, left_last, end_within}
use Rattle.printing.specs.Printing.{printed}
use Rattle.printing.specs.PrintingLaws.{put-nothing, put_one, put_past, put_then}
use Rattle.forms.specs.declared.GenContext.{GenContext}
use Rattle.forms.specs.declared.Level.{Level}
use Rattle.targets.specs.declared.Target.{Target}
use Rattle.events.specs.declared.Entries.{Entries}
use Rattle.events.specs.declared.Entries.TheVariants.{Uses, Variables}
use Rattle.events.specs.declared.Event.{Event}
use Rattle.events.specs.declared.Event.TheVariants.{Temp, Close}
use Rattle.event_fields.specs.EventFields.{target_of, level_of, context_of, entry_of}
use Rattle.event_lines.specs.LineForms.{Line, saying, Form, end_says, field_says, number, target, level, context, all_entries, list_says, leading, comma, uses_in, uses_say, uses_list}
use Rattle.event_lines.specs.Reading.{one_number, paired, two_numbers, tripled, three_numbers, event_among, bare_said, bare_line, with_one, with_two, with_three, mark_of, mark_line, counted, uses_count, temp_line, temp_list, close_line, close_list, list_line, said_by, entries_by}

-- the next field, and what is left behind it
abbrev pub next : ℕ → List ℕ → List ℕ
next mark rest = take (field_end mark rest - 1) (drop 1 rest)

abbrev pub behind : ℕ → List ℕ → List ℕ
behind mark rest = drop (field_end mark rest) rest

-- ---- Numbers

another : (rest : List ℕ) → field_end tab rest < length rest → 0 < length (behind tab rest)
another rest h = omega (arith, length-drop (field_end tab rest) rest)

pub one_more : (rest : List ℕ) → field_end tab rest < length rest → one_number (fields_left tab rest) ≡ None
unfolding one_number
one_more rest h = rw (left_some tab rest (omega arith), left_some tab (behind tab rest) (another rest h))

pub one_last : (rest : List ℕ) → length rest ≤ field_end tab rest → one_number (fields_left tab rest) ≡ number_of (next tab rest)
unfolding one_number
one_last [] h = rw (left_none tab [] refl, take-nil {A = ℕ} (field_end tab [] - 1), number-empty [] refl)
one_last (c ∷ cs) h =
    rw (left_some tab (c ∷ cs) (omega arith), drop_of_length-le (c ∷ cs) {i = field_end tab (c ∷ cs)} h, left_none tab [] refl)

pub two_step : (rest : List ℕ) → two_numbers (fields_left tab rest) ≡ paired (number_of (next tab rest)) (one_number (fields_left tab (behind tab rest)))
unfolding two_numbers
two_step [] = rw (left_none tab [] refl, take-nil {A = ℕ} (field_end tab [] - 1), number-empty [] refl)
two_step (c ∷ cs) = rw (left_some tab (c ∷ cs) (omega arith))

pub three_step : (rest : List ℕ) → three_numbers (fields_left tab rest) ≡ tripled (number_of (next tab rest)) (two_numbers (fields_left tab (behind tab rest)))
unfolding three_numbers
three_step [] = rw (left_none tab [] refl, take-nil {A = ℕ} (field_end tab [] - 1), number-empty [] refl)
three_step (c ∷ cs) = rw (left_some tab (c ∷ cs) (omega arith))

-- ---- No further field

module _ (code : ℕ) (rest : List ℕ) where
  pub bare_none : length rest ≡ 0 → bare_line code (fields_left tab rest) ≡ bare_said code
  unfolding bare_line
  bare_none h = rw (left_none tab rest h)

  pub bare_some : (length rest ≡ 0 → ⊥) → bare_line code (fields_left tab rest) ≡ None
  unfolding bare_line
  bare_some h = rw (left_some tab rest (omega arith))

module _ (event : Event) (rest : List ℕ) where
  pub end_none : length rest ≡ 0 → end_says event (fields_left tab rest) ≡ saying event 0
  unfolding end_says
  end_none h = rw (left_none tab rest h)

  pub end-some : (length rest ≡ 0 → ⊥) → end_says event (fields_left tab rest) ≡ None
  unfolding end_says
  end-some h = rw (left_some tab rest (omega arith))

-- ---- A field and the others behind it

-- where none is left, the next one is taken to be empty
field_step :
    {A B : Type 0} (read : List ℕ → Option B) (others : Form A) → read [] ≡ None → (event : B → A) (rest : List ℕ)
    → field_says read others event (fields_left tab rest)
    ≡ option_and_then (λ b. others.says (event b) (fields_left tab (behind tab rest))) (read (next tab rest))
unfolding field_says
field_step read others empty event [] = rw (left_none tab [] refl, take-nil {A = ℕ} (field_end tab [] - 1), empty)
field_step read others empty event (c ∷ cs) = rw (left_some tab (c ∷ cs) (omega arith))

module _ {A : Type 0} (others : Form A) where
  number_step :
      (event : ℕ → A) (rest : List ℕ)
      → (number others).says event (fields_left tab rest)
      ≡ option_and_then (λ n. others.says (event n) (fields_left tab (behind tab rest))) (number_of (next tab rest))
  number_step = field_step number_of others (number-empty [] refl)

  target-step :
      (event : Target → A) (rest : List ℕ)
      → (target others).says event (fields_left tab rest)
      ≡ option_and_then (λ t. others.says (event t) (fields_left tab (behind tab rest))) (target_of (next tab rest))
  unfolding target_of same
  target-step = field_step target_of others refl

  level-step :
      (event : Level → A) (rest : List ℕ)
      → (level others).says event (fields_left tab rest)
      ≡ option_and_then (λ l. others.says (event l) (fields_left tab (behind tab rest))) (level_of (next tab rest))
  unfolding level_of same
  level-step = field_step level_of others refl

  context-step :
      (event : GenContext → A) (rest : List ℕ)
      → (context others).says event (fields_left tab rest)
      ≡ option_and_then (λ c. others.says (event c) (fields_left tab (behind tab rest))) (context_of (next tab rest))
  unfolding context_of same
  context-step = field_step context_of others refl

-- ---- Target, level, context

pub mark_step :
    (code : ℕ) (rest : List ℕ)
    → mark_line code (fields_left tab rest)
    ≡ option_and_then
    (λ t. option_and_then
    (λ l. option_and_then
    (λ c. mark_of code t l c (fields_left tab (behind tab (behind tab (behind tab rest)))))
    (context_of (next tab (behind tab (behind tab rest)))))
    (level_of (next tab (behind tab rest))))
    (target_of (next tab rest))
mark_step code rest = simp (target-step, level-step, context-step)

-- ---- Uses

-- the parts of that field are those that are left up to each comma
uses_parts : (rest : List ℕ) → field_end tab rest ≡ length rest → split comma (next tab rest) ≡ fields_left comma rest
unfolding fields_left field_end
uses_parts [] h = absurd (omega arith)
uses_parts (c ∷ cs) h = rw (take_all (field_end tab (c ∷ cs) - 1) cs (omega arith))

module _ (c : ℕ) (cs : List ℕ) where
  uses_more : (field_end tab (c ∷ cs) ≡ length (c ∷ cs) → ⊥) → field_end tab (c ∷ cs) < length (c ∷ cs)
  uses_more h = omega (arith, end_within tab (c ∷ cs) (omega arith))

pub uses-other : (rest : List ℕ) → (field_end tab rest ≡ length rest → ⊥) → uses_count (fields_left tab rest) ≡ None
unfolding uses_count
uses-other [] h = rw (left_none tab [] refl)
uses-other (c ∷ cs) h =
    rw (left_some tab (c ∷ cs) (omega arith), left_some tab (behind tab (c ∷ cs)) (another (c ∷ cs) (uses_more c cs h)))

pub uses-other-list : (rest : List ℕ) → (field_end tab rest ≡ length rest → ⊥) → uses_list (fields_left tab rest) ≡ []
unfolding uses_list
uses-other-list [] h = rw (left_none tab [] refl)
uses-other-list (c ∷ cs) h =
    rw (left_some tab (c ∷ cs) (omega arith), left_some tab (behind tab (c ∷ cs)) (another (c ∷ cs) (uses_more c cs h)))

module _ (rest : List ℕ) (whole : field_end tab rest ≡ length rest) where
  pub uses-none : same (next tab rest) (bytes "-") ≡ true → uses_count (fields_left tab rest) ≡ Some 0
  unfolding uses_count uses_in counted all_entries
  uses-none e = rw (left_last tab rest whole, e)

  pub uses-none-list : same (next tab rest) (bytes "-") ≡ true → uses_list (fields_left tab rest) ≡ []
  unfolding uses_list uses_in leading
  uses-none-list e = rw (left_last tab rest whole, e)

  pub uses-some :
      same (next tab rest) (bytes "-") ≡ false → uses_count (fields_left tab rest) ≡ counted Uses (fields_left comma rest)
  unfolding uses_count uses_in
  uses-some e = rw (left_last tab rest whole, e, uses_parts rest whole)

  pub uses-some-list :
      same (next tab rest) (bytes "-") ≡ false → uses_list (fields_left tab rest) ≡ leading Uses (fields_left comma rest)
  unfolding uses_list uses_in
  uses-some-list e = rw (left_last tab rest whole, e, uses_parts rest whole)

-- ---- `temp` and `close`

module _ (line : Option ℕ → Line) (event : Event) (some : (n : ℕ) → line (Some n) ≡ saying event n) (none : line None ≡ None) where
  pub counted-read : (entries : Entries) (parts : List (List ℕ)) → line (counted entries parts) ≡ list_says entries event parts
  unfolding counted list_says
  counted-read entries parts =
      elim (all_entries entries parts) as
      (λ t. line (if t then Some (length parts) else None) ≡ (if t then saying event (length parts) else None))
      [ true ↦ some (length parts) | false ↦ none ]

  uses-read : (fields : List (List ℕ)) → line (uses_count fields) ≡ uses_say event fields
  unfolding uses_count uses_say
  uses-read [] = none
  uses-read (field ∷ []) = counted-read Uses (uses_in field)
  uses-read (field ∷ (next ∷ fields)) = none

pub list_said :
    (entries : Entries) (event : Event) (parts : List (List ℕ))
    → list_says entries event parts ≡ option_map (λ n. record { event = event; entries = n }) (counted entries parts)
list_said entries event parts = sym (counted-read (option_map (λ n. record { event = event; entries = n })) event (λ n. refl) refl entries parts)

pub uses_said :
    (event : Event) (fields : List (List ℕ))
    → uses_say event fields ≡ option_map (λ n. record { event = event; entries = n }) (uses_count fields)
uses_said event fields = sym (uses-read (option_map (λ n. record { event = event; entries = n })) event (λ n. refl) refl fields)

pub temp_step :
    (rest : List ℕ)
    → temp_line (fields_left tab rest)
    ≡ option_and_then
    (λ c. option_and_then
    (λ n. option_map (λ count. record { event = Temp c n; entries = count }) (uses_count (fields_left tab (behind tab (behind tab rest)))))
    (number_of (next tab (behind tab rest))))
    (context_of (next tab rest))
temp_step rest = simp (context-step, number_step, uses_said)

-- the fields behind the next one
left_tail : (rest : List ℕ) → tail (fields_left tab rest) ≡ fields_left tab (behind tab rest)
left_tail [] = rw (drop-nil {A = ℕ} (field_end tab []), left_none tab [] refl)
left_tail (c ∷ cs) = rw (left_some tab (c ∷ cs) (omega arith))

pub temp_list-step : (rest : List ℕ) → temp_list (fields_left tab rest) ≡ uses_list (fields_left tab (behind tab (behind tab rest)))
temp_list-step rest = rw (left_tail rest, left_tail (behind tab rest))

pub close-step :
    (rest : List ℕ)
    → close_line (fields_left tab rest)
    ≡ option_and_then
    (λ d. option_map (λ count. record { event = Close d; entries = count }) (counted Variables (fields_left tab (behind tab rest))))
    (number_of (next tab rest))
close-step rest = simp (number_step, list_said)

pub close_list-step : (rest : List ℕ) → close_list (fields_left tab rest) ≡ leading Variables (fields_left tab (behind tab rest))
close_list-step rest = rw (left_tail rest)

-- ---- The entries of a list

module _ (entries : Entries) (mark : ℕ) (rest : List ℕ) where
  pub all_none : length rest ≡ 0 → all_entries entries (fields_left mark rest) ≡ true
  unfolding all_entries
  all_none h = rw (left_none mark rest h)

  pub leading-none : length rest ≡ 0 → leading entries (fields_left mark rest) ≡ []
  unfolding leading
  leading-none h = rw (left_none mark rest h)

  module _ (some : 0 < length rest) where
    pub all_not : entry_of entries (next mark rest) ≡ None → all_entries entries (fields_left mark rest) ≡ false
    unfolding all_entries
    all_not e = rw (left_some mark rest some, e)

    pub leading-not : entry_of entries (next mark rest) ≡ None → leading entries (fields_left mark rest) ≡ []
    unfolding leading
    leading-not e = rw (left_some mark rest some, e)

    module _ (n : ℕ) (e : entry_of entries (next mark rest) ≡ Some n) where
      pub all_more : all_entries entries (fields_left mark rest) ≡ all_entries entries (fields_left mark (behind mark rest))
      unfolding all_entries
      all_more = rw (left_some mark rest some, e)

      pub leading_more : leading entries (fields_left mark rest) ≡ n ∷ leading entries (fields_left mark (behind mark rest))
      unfolding leading
      leading_more = rw (left_some mark rest some, e)

pub counted_all : (entries : Entries) (parts : List (List ℕ)) → all_entries entries parts ≡ true → counted entries parts ≡ Some (length parts)
unfolding counted
counted_all entries parts e = rw e

pub counted-not : (entries : Entries) (parts : List (List ℕ)) → all_entries entries parts ≡ false → counted entries parts ≡ None
unfolding counted
counted-not entries parts e = rw e

-- ---- Entries put one behind another

pub put-none : (list : List ℕ) (at : ℕ) → printed list at [] ≡ list
put-none list at =
    elim (leb at (length list)) as (λ t. leb at (length list) ≡ t → printed list at [] ≡ list) [
      | true ↦ λ e. sym (put-nothing list at (leb-true at (length list) e)).bytes
      | false ↦ λ e. (let h = leb-false at (length list) e in sym (put_past list at [] (omega arith) (omega arith)).bytes)
    ]
    refl

put_next : (list : List ℕ) (at n : ℕ) (ns : List ℕ) → printed (set list at n) (at + 1) ns ≡ printed list at (n ∷ ns)
put_next list at n ns =
    elim (ltb at (length list)) as (λ t. ltb at (length list) ≡ t → printed (set list at n) (at + 1) ns ≡ printed list at (n ∷ ns)) [
      | true ↦ λ e. (put_then (put_one list at n (ltb-true at (length list) e)) (record { place = refl; bytes = refl })).bytes
      | false ↦ λ e. (let h = ltb-false at (length list) e in
          rw (set_out list at n h)
          (sym (put_past list (at + 1) ns (omega arith) (omega arith)).bytes ∙ (put_past list at (n ∷ ns) (omega arith) h).bytes))
    ]
    refl

pub put_more :
    (list : List ℕ) (at n : ℕ) (ns : List ℕ) {after : List ℕ} → after ≡ set list at n → printed after (at + 1) ns ≡ printed list at (n ∷ ns)
put_more list at n ns put = ap (λ l. printed l (at + 1) ns) put ∙ put_next list at n ns

-- ---- All numbers of words

pub said_unknown : (code : ℕ) (fields : List (List ℕ)) → code ≡ 0 → said_by code fields ≡ None
unfolding said_by bare_line event_among
said_unknown code [] h = rw h refl
said_unknown code (field ∷ fields) h = rw h refl

module _ (code : ℕ) (fields : List (List ℕ)) where
  pub said_bare : code ≤ 6 → said_by code fields ≡ bare_line code fields
  unfolding said_by
  said_bare h = simp (le-leb code 6 h)

  pub said_one : 6 < code → code ≤ 12 → said_by code fields ≡ with_one code (one_number fields)
  unfolding said_by
  said_one l h = simp (lt-leb code 6 l, le-leb code 12 h)

  pub said_two : 12 < code → code ≤ 15 → said_by code fields ≡ with_two code (two_numbers fields)
  unfolding said_by
  said_two l h = simp (lt-leb code 6 (omega arith), lt-leb code 12 l, le-leb code 15 h)

  pub said_three : code ≡ 16 → said_by code fields ≡ with_three (three_numbers fields)
  unfolding said_by
  said_three h = rw h

  pub said_mark : 16 < code → code ≤ 19 → said_by code fields ≡ mark_line code fields
  unfolding said_by
  said_mark l h =
      simp (
        lt-leb code 6 (omega arith),
        lt-leb code 12 (omega arith),
        lt-leb code 15 (omega arith),
        lt-leb code 16 l,
        le-leb code 19 h,
      )

  pub said_list : 19 < code → said_by code fields ≡ list_line code fields
  unfolding said_by
  said_list l =
      simp (
        lt-leb code 6 (omega arith),
        lt-leb code 12 (omega arith),
        lt-leb code 15 (omega arith),
        lt-leb code 16 (omega arith),
        lt-leb code 19 l,
      )

  pub said_past : 22 < code → said_by code fields ≡ None
  unfolding list_line
  said_past h =
      said_list (omega arith)
      ∙ simp (ne_eqb code 20 (λ e. omega arith), ne_eqb code 21 (λ e. omega arith), ne_eqb code 22 (λ e. omega arith))

  pub no_entries : (20 ≤ code → 22 < code) → entries_by code fields ≡ []
  unfolding entries_by
  no_entries outside =
      simp (
        ne_eqb code 20 (λ e. omega (arith, outside (omega arith))),
        ne_eqb code 21 (λ e. omega (arith, outside (omega arith))),
        ne_eqb code 22 (λ e. omega (arith, outside (omega arith))),
      )

  -- a line without a list leaves the lent list as it is
  pub put_no_entries : (list : List ℕ) → (20 ≤ code → 22 < code) → list ≡ printed list 0 (entries_by code fields)
  put_no_entries list outside = rw (no_entries outside) (sym (put-none list 0))

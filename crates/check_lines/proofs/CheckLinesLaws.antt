-- Laws of reading, a field at a time.
use Rattle.std.specs.Prelude.{ℕ, ◌-◌, ◌<◌, ◌≡◌, List, take, drop, None}
use Rattle.std.proofs.Common.{sym, arith}
use Rattle.std.proofs.Math.ListN.{length, length-drop}
use Rattle.split.specs.Split.{tab, before}
use Rattle.split.specs.SplitLaws.{take-before}
use Rattle.numbers.specs.Numbers.{number_of}
use Rattle.fields.specs.Fields.{field_end, fields_left}
use Rattle.fields.specs.FieldsLaws.{left_none, left_some, left_last, end_within, line_fields}
use Rattle.check_lines.specs.CheckLines.{fields_say, line_says}
use Rattle.check_lines.specs.Reading.{word_code, field_of, no_field, one_field, two_fields, said_by}
use Rattle.check_lines.proofs.ReadingLaws.{by-none, word_said}

-- the next field, and what is left behind it
abbrev pub next : List ℕ → List ℕ
next rest = take (field_end tab rest - 1) (drop 1 rest)

abbrev pub behind : List ℕ → List ℕ
behind rest = drop (field_end tab rest) rest

-- the next field ends with the line
abbrev pub NextIsLast : List ℕ → Type 0
NextIsLast rest = field_end tab rest ≡ length rest

-- one that does not has another one behind it
another : (rest : List ℕ) → 0 < length rest → (NextIsLast rest → ⊥) → 0 < length (behind rest)
another rest some h = omega (arith, h, end_within tab rest some, length-drop (field_end tab rest) rest)

last_some : (rest : List ℕ) → NextIsLast rest → 0 < length rest
unfolding field_end
last_some rest h = omega arith

module _ (code : ℕ) (rest : List ℕ) where
  pub said_none : length rest ≡ 0 → said_by code (fields_left tab rest) ≡ no_field code
  unfolding said_by
  said_none h = rw (left_none tab rest h)

  pub said_malformed : 0 < length rest → field_of (next rest) ≡ None → said_by code (fields_left tab rest) ≡ None
  unfolding said_by
  said_malformed some e = rw (left_some tab rest some, e)

  pub said_one : NextIsLast rest → said_by code (fields_left tab rest) ≡ one_field code (field_of (next rest))
  unfolding said_by
  said_one h = rw (left_last tab rest h)

  pub said_two :
      NextIsLast (behind rest)
      → said_by code (fields_left tab rest) ≡ two_fields code (field_of (next rest)) (number_of (next (behind rest)))
  unfolding said_by
  said_two h =
      let some : 0 < length rest = omega (arith, last_some (behind rest) h, length-drop (field_end tab rest) rest) in
      rw (left_some tab rest some, left_last tab (behind rest) h)

  pub said_more :
      (length rest ≡ 0 → ⊥) → (NextIsLast rest → ⊥) → (NextIsLast (behind rest) → ⊥)
      → said_by code (fields_left tab rest) ≡ None
  unfolding said_by
  said_more some h k =
      let second = another rest (omega arith) h in
      let third = another (behind rest) second k in
      rw (left_some tab rest (omega arith), left_some tab (behind rest) second, left_some tab (behind (behind rest)) third)
      (by-none (field_of (next rest)))

pub line_step_lem : (line : List ℕ) → line_says line ≡ said_by (word_code (take (length (before tab line)) line)) (fields_left tab (drop (length (before tab line)) line))
unfolding line_says fields_say
line_step_lem line = rw (line_fields line, take-before tab line) (sym (word_said (before tab line) _))

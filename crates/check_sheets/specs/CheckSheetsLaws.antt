-- Laws of the answer, by any verdict: it stays within the room, and no sheet has more lines than its bytes and one more.
use Rattle.std.specs.Prelude.{ℕ, suc, ◌+◌, ◌-◌, ◌≤◌, ◌≡◌, Bool, List, [], ◌∷◌, length, Ok, Some, None}
use Rattle.std.proofs.Math.Path.{refl, ap}
use Rattle.std.proofs.Math.Bool.{true, false}
use native.Mathlib.Omega.{arith}
use Rattle.std.proofs.Math.Dec.{ltb}
use borrow.Author.Tests.{ltb-false}
use Rattle.std.specs.Prelude.{if◌then◌else◌}
use Rattle.refusals.specs.declared.Refusal.{Refusal}
use Rattle.refusals.specs.declared.Refusal.TheVariants.{Form, Order, Full, Room}
use Rattle.sizes.specs.Sizes.{sheet_bytes}
use Rattle.split.specs.Split.{line_feed, split}
use Rattle.split.specs.SplitLaws.{split_le}
use Rattle.steps.specs.declared.CheckLine.{CheckLine}
use Rattle.steps.specs.Steps.{steps_of, is_uncalled, refusal_of}
use Rattle.check_lines.specs.Behind.{Line}
use Rattle.check_lines.specs.CheckLines.{line_says}
use Rattle.answered.specs.Answered.{refused, filled_by}
use Rattle.answered.specs.AnsweredLaws.{Within, written_bound, refused_bound, filled_by-length}
use Rattle.check_sheets.specs.CheckSheets.{
  Reading,
  bad,
  reads,
  with_line,
  bad_or,
  last_read,
  line_read,
  read_from,
  reading,
  word_of,
  roomed,
  answered_by,
  answered,
  filled,
}

-- ---- The number of a bad line

abbrev BadWithin : ℕ → Reading → Type 0
BadWithin lines (bad number refusal) = number ≤ lines
BadWithin lines (reads read) = Unit {0}

last_bad : (earlier : List CheckLine) (number : ℕ) (left : List ℕ) (lines : ℕ) → number ≤ lines → BadWithin lines (last_read earlier number left)
unfolding last_read
last_bad earlier number left lines h =
    elim (ltb 0 (length left)) as
    (λ t. BadWithin lines (if t then bad number Form else if is_uncalled (steps_of earlier) then bad (number - 1) Order else reads [])) [
      | true ↦ h
      | false ↦ elim (is_uncalled (steps_of earlier)) as
          (λ t. BadWithin lines (if t then bad (number - 1) Order else reads []))
          [ true ↦ omega arith | false ↦ tt ]
    ]

in_front_bad : (line : CheckLine) (r : Reading) (lines : ℕ) → BadWithin lines r → BadWithin lines (with_line line r)
in_front_bad line (bad number refusal) lines h = h
in_front_bad line (reads read) lines h = tt

line_bad :
    (earlier : List CheckLine) (number : ℕ) (said : Line) (others : List CheckLine → Reading) (lines : ℕ)
    → number ≤ lines
    → ((sofar : List CheckLine) → BadWithin lines (others sofar))
    → BadWithin lines (line_read earlier number said others)
line_bad earlier number None others lines h later = h
line_bad earlier number (Some line) others lines h later =
    elim (refusal_of earlier line) as
    (λ r. BadWithin lines (bad_or number r (with_line line (others (line ∷ earlier)))))
    [ Some refusal ↦ h | None ↦ in_front_bad line (others (line ∷ earlier)) lines (later (line ∷ earlier)) ]

read_bad :
    (parts : List (List ℕ)) (earlier : List CheckLine) (number lines : ℕ) → number + length parts ≤ lines + 1
    → BadWithin lines (read_from earlier number parts)
unfolding read_from
read_bad [] earlier number lines h = tt
read_bad (left ∷ []) earlier number lines h = last_bad earlier number left lines (omega arith)
read_bad (line ∷ (next ∷ parts)) earlier number lines h =
    line_bad earlier number (line_says line) (λ sofar. read_from sofar (suc number) (next ∷ parts)) lines
    (omega arith)
    (λ sofar. read_bad (next ∷ parts) sofar (suc number) lines (omega arith))

reading_bad : (sheet : List ℕ) (lines : ℕ) → length sheet + 1 ≤ lines → BadWithin lines (reading sheet)
unfolding reading
reading_bad sheet lines h = read_bad (split line_feed sheet) [] 1 lines (omega (arith, split_le line_feed sheet))

-- ---- Within the room, and no sheet has more lines than its bytes and one more

roomed_within : (right : Bool) (room lines : ℕ) → Within room (word_of right) lines (roomed right room)
unfolding roomed
roomed_within right room lines =
    elim (ltb room (length (word_of right))) as
    (λ t. ltb room (length (word_of right)) ≡ t → Within room (word_of right) lines (if t then refused 0 Room else Ok (length (word_of right)))) [
      | true ↦ λ e. omega arith
      | false ↦ λ e. (ltb-false room (length (word_of right)) e, refl)
    ]
    refl

module _ (right : Bool) where
  answered_by_within : (r : Reading) (room lines : ℕ) → BadWithin lines r → Within room (word_of right) lines (answered_by right r room)
  answered_by_within (bad number refusal) room lines h = h
  answered_by_within (reads read) room lines h = roomed_within right room lines

  pub answered_within : (sheet : List ℕ) (room : ℕ) → Within room (word_of right) (sheet_bytes + 1) (answered right sheet room)
  unfolding answered
  answered_within sheet room =
      elim (ltb sheet_bytes (length sheet)) as
      (λ t. ltb sheet_bytes (length sheet) ≡ t → Within room (word_of right) (sheet_bytes + 1) (if t then refused 0 Full else answered_by right (reading sheet) room)) [
        | true ↦ λ e. omega arith
        | false ↦ λ e. answered_by_within (reading sheet) room (sheet_bytes + 1) (reading_bad sheet (sheet_bytes + 1) (omega (arith, ltb-false sheet_bytes (length sheet) e)))
      ]
      refl

  -- the count of bytes is the word's, and there is room for it
  pub written_within :
      (sheet : List ℕ) (room count : ℕ) → answered right sheet room ≡ Ok count
      → (count ≤ room) × (count ≡ length (word_of right))
  written_within sheet room count e = written_bound room _ _ (answered right sheet room) (answered_within sheet room) e

  pub line_within : (sheet : List ℕ) (room line : ℕ) (refusal : Refusal) → answered right sheet room ≡ refused line refusal → line ≤ sheet_bytes + 1
  line_within sheet room line refusal e = refused_bound room (word_of right) _ (answered right sheet room) (answered_within sheet room) e

  -- the lent bytes stay as many
  pub filled-length : (sheet out : List ℕ) → length (filled right sheet out) ≡ length out
  unfolding filled
  filled-length sheet out =
      filled_by-length (word_of right) out (sheet_bytes + 1) (answered right sheet (length out)) (answered_within sheet (length out))

  -- rule 1.3: and a refusal leaves each of them as it was
  pub refused_untouched :
      (sheet out : List ℕ) (line : ℕ) (refusal : Refusal) → answered right sheet (length out) ≡ refused line refusal → filled right sheet out ≡ out
  unfolding filled
  refused_untouched sheet out line refusal e = ap (λ a. filled_by a (word_of right) out) e

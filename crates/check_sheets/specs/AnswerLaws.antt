-- Laws of the answer: each way to it.
use Rattle.std.specs.Prelude.{ℕ, ◌≤◌, ◌<◌, ◌≡◌, refl, Bool, true, false, List, ◌++◌, length, Ok, Err}
use Rattle.std.proofs.Common.{ap, sym, ◌∙◌, arith, zero-add, take_all}
use Rattle.std.proofs.lemmas.Bool.{false≢true}
use Rattle.std.proofs.Math.ListN.{drop, length-append, length-drop}
use borrow.Author.Tests.{lt-ltb, le-ltb, le-leb}
use Rattle.refusals.specs.declared.Refusal.TheVariants.{Full, Room}
use Rattle.sizes.specs.Sizes.{sheet_bytes}
use Rattle.printing.specs.Printing.{printed, place_after, Put}
use Rattle.answered.specs.declared.Refused.{Refused}
use Rattle.answered.specs.Answered.{Answered, refused, filled_by}
use Rattle.check_sheets.specs.CheckSheets.{Reading, bad, reads, word_of, roomed, answered_by, reading, answered, filled}
use Rattle.check_sheets.specs.Running.{Run, verdict, verdict_of, run_of}

-- ---- The word

word-length : (right : Bool) → length (word_of right) ≡ 9
word-length true = refl
word-length false = refl

module _ (right : Bool) (out : List ℕ) where
  no_room : length out < 9 → refused 0 Room ≡ roomed right (length out)
  unfolding roomed
  no_room h = simp (word-length right, lt-ltb (length out) 9 h)

  room : 9 ≤ length out → Ok 9 ≡ roomed right (length out)
  unfolding roomed
  room h = simp (word-length right, le-ltb (length out) 9 h)

  place : {count : ℕ} {after : List ℕ} → 9 ≤ length out → Put out 0 (word_of right) count after → count ≡ 9
  unfolding place_after
  place h put = put.place ∙ rw (zero-add, word-length right) (simp (le-leb 9 (length out) h))

  text : {count : ℕ} {after : List ℕ} → 9 ≤ length out → Put out 0 (word_of right) count after → after ≡ word_of right ++ drop 9 out
  unfolding printed
  text h put =
      put.bytes
      ∙ rw (zero-add, word-length right)
      (take_all (length out) (word_of right ++ drop 9 out) (omega (arith, length-append (word_of right) (drop 9 out), length-drop 9 out, word-length right)))

  pub word-refused :
      length out < 9
      → (refused 0 Room ≡ roomed right (length out)) × (out ≡ filled_by (roomed right (length out)) (word_of right) out)
  word-refused h = (no_room h, ap (λ a. filled_by a (word_of right) out) (no_room h))

  pub word-written :
      {count : ℕ} {after : List ℕ} → 9 ≤ length out → Put out 0 (word_of right) count after
      → (Ok count ≡ roomed right (length out)) × (after ≡ filled_by (roomed right (length out)) (word_of right) out)
  word-written h put =
      (ap (λ (n : ℕ). Ok n) (place h put) ∙ room h, text h put ∙ ap (λ a. filled_by a (word_of right) out) (room h))

-- ---- The answer, by any verdict

module _ (right : Bool) (sheet out : List ℕ) where
  -- the answer and the lent bytes
  abbrev pub AnswersBy : Answered → List ℕ → Type 0
  AnswersBy a after = (a ≡ answered right sheet (length out)) × (after ≡ filled right sheet out)

  pub sheet_full : sheet_bytes < length sheet → AnswersBy (refused 0 Full) out
  unfolding answered filled
  sheet_full h = (simp (lt-ltb _ _ h), simp (lt-ltb _ _ h))

  read_answers :
      length sheet ≤ sheet_bytes → {a : Answered} {after : List ℕ}
      → (a ≡ answered_by right (reading sheet) (length out)) × (after ≡ filled_by (answered_by right (reading sheet) (length out)) (word_of right) out)
      → AnswersBy a after
  unfolding answered filled
  read_answers h by = simp (le-ltb _ _ h) by

-- ---- What the run answered

abbrev refused_by : Run → Answered
refused_by (Err told) = Err told
refused_by (Ok right) = Ok 0

abbrev right_by : Run → Bool
right_by (Err told) = false
right_by (Ok right) = right

abbrev is_bad : Run → Bool
is_bad (Err told) = true
is_bad (Ok right) = false

bad_told :
    (r : Reading) (out : List ℕ) {told : Refused} → Err told ≡ run_of r
    → (Err told ≡ answered_by (verdict_of r) r (length out))
    × (out ≡ filled_by (answered_by (verdict_of r) r (length out)) (word_of (verdict_of r)) out)
bad_told (bad number refusal) out e = (ap refused_by e, refl)
bad_told (reads lines) out e = absurd (false≢true (sym (ap is_bad e)))

judged-told :
    (r : Reading) (out : List ℕ) {right : Bool} → Ok right ≡ run_of r
    → (roomed right (length out) ≡ answered_by (verdict_of r) r (length out))
    × (filled_by (roomed right (length out)) (word_of right) out ≡ filled_by (answered_by (verdict_of r) r (length out)) (word_of (verdict_of r)) out)
unfolding verdict
judged-told (bad number refusal) out e = absurd (false≢true (ap is_bad e))
judged-told (reads lines) out e =
    let same = ap right_by e in
    (ap (λ b. roomed b (length out)) same, ap (λ b. filled_by (roomed b (length out)) (word_of b) out) same)

module _ (sheet out : List ℕ) (short : length sheet ≤ sheet_bytes) where
  pub sheet-refused :
      {told : Refused} → Err told ≡ run_of (reading sheet) → AnswersBy (verdict_of (reading sheet)) sheet out (Err told) out
  sheet-refused e = read_answers (verdict_of (reading sheet)) sheet out short (bad_told (reading sheet) out e)

  pub sheet-judged :
      {right : Bool} {a : Answered} {after : List ℕ} → Ok right ≡ run_of (reading sheet)
      → a ≡ roomed right (length out)
      → after ≡ filled_by (roomed right (length out)) (word_of right) out
      → AnswersBy (verdict_of (reading sheet)) sheet out a after
  sheet-judged e answers fills =
      let w = judged-told (reading sheet) out e in
      read_answers (verdict_of (reading sheet)) sheet out short (answers ∙ w.0, fills ∙ w.1)

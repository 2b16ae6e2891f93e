-- Rule 25.3 of check sheets: when each refusal is given, both ways, by any verdict and in any room; and that no other is given.
use Rattle.std.specs.Prelude.{ℕ, ◌≤◌, ◌<◌, ◌≡◌, Bool, ◌↔◌, ◌≢◌, ◌⊎◌, List, [], ◌∷◌, ltb, Ok, Err, None}
use Rattle.std.proofs.Math.Path.{refl, ap, ap₂}
use Rattle.std.proofs.Common.{sym, ◌∙◌, inl, ⊎_elim}
use mathlib.Core.Logic.Iff
use Rattle.std.proofs.Math.Logic.{inr}
use native.Mathlib.Omega.{arith}
use Rattle.std.proofs.Math.ListN.{length}
use borrow.Author.Tests.{ltb-true, ltb-false, lt-ltb, le-ltb}
use Rattle.notation.specs.ChoiceLaws.{either, by_test}
use Rattle.refusals.specs.declared.Refusal.{Refusal}
use Rattle.refusals.specs.declared.Refusal.TheVariants.{Form, Order, Size, Full, Unreachable, Room}
use Rattle.sizes.specs.Sizes.{sheet_bytes}
use Rattle.answered.specs.Answered.{Answered, refused}
use Rattle.answered.specs.NumberLaws.{line_in, told_alike, TellsApart, tells_apart}
use Rattle.steps.specs.declared.CheckLine.{CheckLine}
use Rattle.check_lines.specs.Behind.{Line}
use Rattle.check_lines.specs.CheckLines.{line_says}
use Rattle.check_sheets.specs.CheckSheets.{Reading, bad, reads, reading, word_of, roomed, answered_by, answered}
use Rattle.check_exactly.specs.Exactly.{LineThat, LineAt, UnendedAt, UncalledAt, FirstBad, IsRead, SaysThat, OutOfOrder, OutOfSize, TooMany, GivenToLines, GivenBy}
use Rattle.check_exactly.proofs.LineRefusedLaws.{By, form_by, order_by, size_by, full_by, bad_given}
use Rattle.check_exactly.proofs.ReadingLaws.{bad_exactly, reads_exactly}

-- ---- The answer to a sheet that is short enough

module _ (right : Bool) (room : ℕ) where
  roomed-line : line_in (roomed right room) ≡ 0
  unfolding roomed
  roomed-line = either (λ (a : Answered). line_in a ≡ 0) (ltb room (length (word_of right))) refl refl

  bad_answered : {number : ℕ} {refusal : Refusal} → 1 ≤ number → (r : Reading) → (answered_by right r room ≡ refused number refusal) ↔ (r ≡ bad number refusal)
  bad_answered some (bad line given) = (λ e. (let same = told_alike e in ap₂ bad same.0 same.1), λ e. cc)
  bad_answered some (reads lines) =
      (λ e. absurd (omega (arith, roomed-line, ap line_in e)), λ e. (let never : ◌≡◌ {A = ℕ} 0 1 = cc in absurd (omega arith)))

  roomed_exactly : {refusal : Refusal} → (roomed right room ≡ refused 0 refusal) ↔ ((refusal ≡ Room) × (room < length (word_of right)))
  unfolding roomed
  roomed_exactly {refusal} = (
    by_test (λ (a : Answered). a ≡ refused 0 refusal → (refusal ≡ Room) × (room < length (word_of right))) (ltb room (length (word_of right)))
        (λ small e. (sym (told_alike e).1, ltb-true room (length (word_of right)) small))
        (λ wide e. absurd cc),
    λ told. simp (lt-ltb room (length (word_of right)) told.1) (ap (refused 0) (sym told.0)),
  )

module _ (right : Bool) (sheet : List ℕ) (room : ℕ) where
  pub short_answered : length sheet ≤ sheet_bytes → answered right sheet room ≡ answered_by right (reading sheet) room
  unfolding answered
  short_answered short = simp (le-ltb sheet_bytes (length sheet) short)

  -- any other refusal than that of a sheet that is too long is by its reading
  by-reading :
      {number : ℕ} {refusal : Refusal} → refused {A = ℕ} number refusal ≢ refused 0 Full
      → (answered right sheet room ≡ refused number refusal)
      ↔ ((length sheet ≤ sheet_bytes) × (answered_by right (reading sheet) room ≡ refused number refusal))
  unfolding answered
  by-reading {number} {refusal} other = (
    by_test
        (λ (a : Answered). a ≡ refused number refusal → (length sheet ≤ sheet_bytes) × (answered_by right (reading sheet) room ≡ refused number refusal))
        (ltb sheet_bytes (length sheet))
        (λ long e. absurd (other (sym e)))
        (λ short e. (ltb-false sheet_bytes (length sheet) short, e)),
    λ told. short_answered told.0 ∙ told.1,
  )

-- ---- Line `number` is refused

line_that_so :
    {Holds Other : Line → Type 0} → ((said : Line) → Holds said → Other said) → (rest : List (List ℕ))
    → LineThat Holds rest → LineThat Other rest
line_that_so so [] holds = holds
line_that_so so (left ∷ []) holds = holds
line_that_so so (text ∷ (next ∷ parts)) holds = so (line_says text) holds

line_at_so :
    {sheet : List ℕ} {number : ℕ} {Holds Other : List CheckLine → Line → Type 0}
    → ((earlier : List CheckLine) (said : Line) → Holds earlier said → Other earlier said)
    → LineAt sheet number Holds → LineAt sheet number Other
line_at_so so at =
    record {
      count = at.count;
      earlier = at.earlier;
      rest = at.rest;
      read = at.read;
      holds = (at.holds.0, line_that_so (so at.earlier) at.rest at.holds.1);
    }

-- the ways to a first bad line
abbrev Ways : Refusal → Type 0 → Type 0 → Type 0 → Type 0
Ways refusal Line Unended Uncalled = Line ⊎ ((refusal ≡ Form) × Unended) ⊎ ((refusal ≡ Order) × Uncalled)

line-alone :
    {Line Unended Uncalled : Type 0} {refusal : Refusal} → refusal ≢ Form → refusal ≢ Order
    → Ways refusal Line Unended Uncalled ↔ Line
line-alone other another =
    (⊎_elim (λ at. at) (⊎_elim (λ told. absurd (other told.0)) (λ told. absurd (another told.0))), inl)

module _ (right : Bool) (sheet : List ℕ) (room : ℕ) {number : ℕ} (some : 1 ≤ number) where
  -- by its first bad line
  pub refused_exactly :
      {refusal : Refusal} → (answered right sheet room ≡ refused number refusal) ↔ ((length sheet ≤ sheet_bytes) × FirstBad sheet number refusal)
  refused_exactly {refusal} =
      Iff.trans (by-reading right sheet room (λ e. omega (arith, some, ap line_in e)))
      (Iff.and Iff.rfl (Iff.trans (bad_answered right room some (reading sheet)) (bad_exactly sheet number refusal)))

  -- and what each refusal is given for
  given_exactly :
      {refusal : Refusal} {Holds : List CheckLine → Line → Type 0} {Bad : Type 0} → By refusal Holds
      → Ways refusal (LineAt sheet number Holds) (UnendedAt sheet number) (UncalledAt sheet number) ↔ Bad
      → (answered right sheet room ≡ refused number refusal) ↔ ((length sheet ≤ sheet_bytes) × Bad)
  given_exactly by told =
      Iff.trans refused_exactly
      (Iff.and Iff.rfl (Iff.trans (
        ⊎_elim (λ at. inl (line_at_so (λ earlier said. (by earlier said).0) at)) inr,
        ⊎_elim (λ at. inl (line_at_so (λ earlier said. (by earlier said).1) at)) inr,
      ) told))

  -- rules 4.1, 4.14: it is no line of a check sheet, or it has no LF
  pub form_exactly :
      (answered right sheet room ≡ refused number Form)
      ↔ ((length sheet ≤ sheet_bytes) × (LineAt sheet number (λ earlier said. said ≡ None) ⊎ UnendedAt sheet number))
  form_exactly =
      given_exactly form_by (
        ⊎_elim inl (⊎_elim (λ told. inr told.1) (λ told. absurd (let never : Form ≡ Order = told.0 in cc))),
        ⊎_elim inl (λ at. inr (inl (refl, at))),
      )

  -- rules 4.2, 19.9: it is out of order, or the last line and a `call` is missing
  pub order_exactly :
      (answered right sheet room ≡ refused number Order)
      ↔ ((length sheet ≤ sheet_bytes) × (LineAt sheet number (SaysThat OutOfOrder) ⊎ UncalledAt sheet number))
  order_exactly =
      given_exactly order_by (
        ⊎_elim inl (⊎_elim (λ told. absurd (let never : Order ≡ Form = told.0 in cc)) (λ told. inr told.1)),
        ⊎_elim inl (λ at. inr (inr (refl, at))),
      )

  -- rule 4.3: in order, a number is outside its size
  pub size_exactly :
      (answered right sheet room ≡ refused number Size)
      ↔ ((length sheet ≤ sheet_bytes) × LineAt sheet number (SaysThat OutOfSize))
  size_exactly = given_exactly size_by (line-alone (λ e. cc) (λ e. cc))

  -- rule 4.7: in order and in size, it is one step or one instruction too many
  pub full_exactly :
      (answered right sheet room ≡ refused number Full)
      ↔ ((length sheet ≤ sheet_bytes) × LineAt sheet number (SaysThat TooMany))
  full_exactly = given_exactly full_by (line-alone (λ e. cc) (λ e. cc))

-- ---- The sheet as a whole is refused

module _ (right : Bool) (sheet : List ℕ) (room : ℕ) where
  abbrev Roomless : Type 0
  Roomless = IsRead sheet × (room < length (word_of right))

  whole-only :
      {refusal : Refusal} → (r : Reading) → reading sheet ≡ r → answered_by right r room ≡ refused 0 refusal
      → (refusal ≡ Room) × Roomless
  whole-only (bad number given) e same = absurd (omega (arith, (bad_given ((bad_exactly sheet number given).0 e)).0, ap line_in same))
  whole-only (reads lines) e same =
      let told = (roomed_exactly right room).0 same in
      (told.0, ((lines, (reads_exactly sheet lines).0 e), told.1))

  roomless_given : Roomless → answered_by right (reading sheet) room ≡ refused 0 Room
  roomless_given told =
      ap (λ r. answered_by right r room) ((reads_exactly sheet told.0.0).1 told.0.1)
      ∙ (roomed_exactly right room).1 (refl, told.1)

  -- rules 4.7, 4.10: it is too long
  pub length_exactly : (answered right sheet room ≡ refused 0 Full) ↔ (sheet_bytes < length sheet)
  unfolding answered
  length_exactly = (
    by_test (λ (a : Answered). a ≡ refused 0 Full → sheet_bytes < length sheet) (ltb sheet_bytes (length sheet))
        (λ long e. ltb-true sheet_bytes (length sheet) long)
        (λ short e. absurd (let never : Full ≡ Room = (whole-only (reading sheet) refl e).0 in cc)),
    λ long. simp (lt-ltb sheet_bytes (length sheet) long),
  )

  -- rules 4.9, 4.10: it is read, and the word is longer than the room
  pub room_exactly :
      (answered right sheet room ≡ refused 0 Room)
      ↔ ((length sheet ≤ sheet_bytes) × (IsRead sheet × (room < length (word_of right))))
  room_exactly =
      Iff.trans (by-reading right sheet room (λ e. (let never : Room ≡ Full = (told_alike e).1 in cc)))
      (Iff.and Iff.rfl (λ e. (whole-only (reading sheet) refl e).1, roomless_given))

-- ---- No other refusal is given

reading_gives : (right : Bool) (sheet : List ℕ) (room : ℕ) (r : Reading) → reading sheet ≡ r → GivenBy (answered_by right r room)
unfolding roomed
reading_gives right sheet room (bad number refusal) e = inl (bad_given ((bad_exactly sheet number refusal).0 e)).1
reading_gives right sheet room (reads lines) e = either GivenBy (ltb room (length (word_of right))) (inr (refl, refl)) tt

few-given : (refusal : Refusal) → GivenToLines refusal → refusal ≢ Unreachable
few-given refusal = ⊎_elim (λ e same. cc) (⊎_elim (λ e same. cc) (⊎_elim (λ e same. cc) (λ e same. cc)))

given_tells : (a : Answered) → GivenBy a → TellsApart a
given_tells (Ok count) given = tt
given_tells (Err told) given =
    tells_apart told.line told.refusal (⊎_elim (few-given told.refusal) (λ room same. (let e : told.refusal ≡ Room = room.1 in cc)) given)

module _ (right : Bool) (sheet : List ℕ) (room : ℕ) where
  pub check_gives : GivenBy (answered right sheet room)
  unfolding answered
  check_gives =
      either GivenBy (ltb sheet_bytes (length sheet)) (inl (inr (inr (inr refl)))) (reading_gives right sheet room (reading sheet) refl)

  -- rule 23.3: so a host can tell the line and the refusal
  pub check_tells : TellsApart (answered right sheet room)
  check_tells = given_tells (answered right sheet room) check_gives

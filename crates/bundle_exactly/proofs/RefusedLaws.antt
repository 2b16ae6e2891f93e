-- Rule 18.6, both ways and in any room: when a bundle is given each refusal and when it is written; and that no other is given.
use Rattle.std.specs.Prelude.{ℕ, ◌≤◌, ◌<◌, ◌≡◌, refl, true, false, ◌↔◌, List, ◌++◌, ltb, length, drop, Ok}
use Rattle.std.proofs.Math.Path.{ap}
use Rattle.std.proofs.Common.{ap₂, subst, sym, ◌∙◌, inl, inr, ⊎_elim, arith}
use mathlib.Core.Logic.Iff
use borrow.Author.Tests.{ltb-true, ltb-false, lt-ltb, le-ltb}
use Rattle.notation.specs.ChoiceLaws.{by_test}
use Rattle.refusals.specs.declared.Refusal.{Refusal}
use Rattle.refusals.specs.declared.Refusal.TheVariants.{Form, Order, Full, Room}
use Rattle.refusals.specs.Refusals.{refused_form, refused_order, refused_full}
use Rattle.sizes.specs.Sizes.{sheet_bytes}
use Rattle.answered.specs.Answered.{Answered, refused, number_of, filled_by}
use Rattle.answered.specs.NumberLaws.{TellsApart, small_told, number_tells, roomless as roomless-tells}
use Rattle.event_sheets.specs.EventSheets.{Ran, refused_at, answered_by}
use Rattle.bundles.specs.Bundles.{lines_of, is_unended, is_stray, has_more, all_ran, bundle_ran, answered, filled}
use Rattle.bundle_exactly.specs.Exactly.{
  TooLong,
  Unended,
  Stray,
  MoreFields,
  OfBadForm,
  IsBundle,
  bundle_text,
  Due,
  full,
  unended,
  stray,
  more,
  roomless,
  written,
  GivenToBundles,
}
use Rattle.bundle_exactly.proofs.TestsLaws.{unended_exactly, unended_no, stray_exactly, stray_no, more_exactly, more_no}

-- ---- What is due is given

module _ (text : List ℕ) (room : ℕ) where
  text_roomless : room < length text → answered_by (all_ran text) room ≡ refused 0 Room
  unfolding answered_by
  text_roomless h = simp (lt-ltb room (length text) h)

  text-written : length text ≤ room → answered_by (all_ran text) room ≡ Ok (length text)
  unfolding answered_by
  text-written h = simp (le-ltb room (length text) h)

-- the run of a bundle, where the tests before each end have failed
module _ (bundle : List ℕ) where
  ran_full : TooLong bundle → bundle_ran bundle ≡ refused_at 0 refused_full
  unfolding bundle_ran
  ran_full long = simp (lt-ltb sheet_bytes (length bundle) long)

  module _ (short : length bundle ≤ sheet_bytes) where
    ran_unended : Unended bundle → bundle_ran bundle ≡ refused_at 0 refused_form
    unfolding bundle_ran
    ran_unended u = simp (le-ltb sheet_bytes (length bundle) short, (unended_exactly bundle).1 u)

    module _ (ended : ¬ Unended bundle) where
      ran_stray : Stray (lines_of bundle) → bundle_ran bundle ≡ refused_at 0 refused_order
      unfolding bundle_ran
      ran_stray s =
          simp (le-ltb sheet_bytes (length bundle) short, (unended_no bundle).1 ended, (stray_exactly (lines_of bundle)).1 s)

      module _ (headed : ¬ Stray (lines_of bundle)) where
        ran_more : MoreFields (lines_of bundle) → bundle_ran bundle ≡ refused_at 0 refused_form
        unfolding bundle_ran
        ran_more m =
            simp (
              le-ltb sheet_bytes (length bundle) short,
              (unended_no bundle).1 ended,
              (stray_no (lines_of bundle)).1 headed,
              (more_exactly (lines_of bundle)).1 m,
            )

  -- one that is refused for nothing but the room
  pub bundle_ran_lem : IsBundle bundle → bundle_ran bundle ≡ all_ran (bundle_text bundle)
  unfolding bundle_ran
  bundle_ran_lem whole =
      simp (
        le-ltb sheet_bytes (length bundle) whole.short,
        (unended_no bundle).1 whole.ended,
        (stray_no (lines_of bundle)).1 whole.headed,
        (more_no (lines_of bundle)).1 whole.plain,
      )

module _ (bundle : List ℕ) (room : ℕ) where
  by-ran : {r : Ran} → bundle_ran bundle ≡ r → answered bundle room ≡ answered_by r room
  unfolding answered
  by-ran e = ap (λ r. answered_by r room) e

  due_given : {a : Answered} → Due bundle room a → answered bundle room ≡ a
  unfolding answered_by
  due_given (full long) = by-ran (ran_full bundle long)
  due_given (unended short u) = by-ran (ran_unended bundle short u)
  due_given (stray short u s) = by-ran (ran_stray bundle short u s)
  due_given (more short u s m) = by-ran (ran_more bundle short u s m)
  due_given (roomless whole h) = by-ran (bundle_ran_lem bundle whole) ∙ text_roomless (bundle_text bundle) room h
  due_given (written whole h) = by-ran (bundle_ran_lem bundle whole) ∙ text-written (bundle_text bundle) room h

  abbrev DueBy : Ran → Type 0
  DueBy r = Due bundle room (answered_by r room)

  whole_due : IsBundle bundle → DueBy (all_ran (bundle_text bundle))
  unfolding answered_by
  whole_due whole =
      by_test (Due bundle room) (ltb room (length (bundle_text bundle)))
      (λ h. roomless whole (ltb-true _ _ h))
      (λ h. written whole (ltb-false _ _ h))

  given_due : Due bundle room (answered bundle room)
  unfolding answered bundle_ran answered_by
  given_due =
      by_test DueBy (ltb sheet_bytes (length bundle)) (λ long. full (ltb-true _ _ long)) (λ e.
      (let short = ltb-false sheet_bytes (length bundle) e in
      by_test DueBy (is_unended bundle) (λ u. unended short ((unended_exactly bundle).0 u)) (λ u.
      (let ended = (unended_no bundle).0 u in
      by_test DueBy (is_stray (lines_of bundle)) (λ s. stray short ended ((stray_exactly (lines_of bundle)).0 s)) (λ s.
      (let headed = (stray_no (lines_of bundle)).0 s in
      by_test DueBy (has_more (lines_of bundle)) (λ m. more short ended headed ((more_exactly (lines_of bundle)).0 m)) (λ m.
      whole_due (record { short = short; ended = ended; headed = headed; plain = (more_no (lines_of bundle)).0 m }))))))))

  -- what is answered is what is due
  pub answered_exactly : (a : Answered) → (answered bundle room ≡ a) ↔ Due bundle room a
  answered_exactly a = (λ e. subst (Due bundle room) e given_due, due_given)

-- ---- Each refusal

module _ {bundle : List ℕ} {room : ℕ} where
  full_due : Due bundle room (refused 0 Full) → TooLong bundle
  full_due (full long) = long

  form_due : Due bundle room (refused 0 Form) → (length bundle ≤ sheet_bytes) × OfBadForm bundle
  form_due (unended short u) = (short, inl u)
  form_due (more short u s m) = (short, inr (s, m))

  due_form : length bundle ≤ sheet_bytes → OfBadForm bundle → Due bundle room (refused 0 Form)
  due_form short bad =
      elim (is_unended bundle) as (λ t. is_unended bundle ≡ t → Due bundle room (refused 0 Form)) [
        | true ↦ λ e. unended short ((unended_exactly bundle).0 e)
        | false ↦ λ e. (let ended = (unended_no bundle).0 e in
            ⊎_elim (λ u. absurd (ended u)) (λ told. more short ended told.0 told.1) bad)
      ]
      refl

  order_due :
      Due bundle room (refused 0 Order) → (length bundle ≤ sheet_bytes) × (¬ Unended bundle) × Stray (lines_of bundle)
  order_due (stray short u s) = (short, u, s)

  room_due : Due bundle room (refused 0 Room) → IsBundle bundle × (room < length (bundle_text bundle))
  room_due (roomless whole h) = (whole, h)

  written_due :
      {count : ℕ} → Due bundle room (Ok count)
      → IsBundle bundle × (length (bundle_text bundle) ≤ room) × (count ≡ length (bundle_text bundle))
  written_due (written whole h) = (whole, h, refl)

  only_due : {line : ℕ} {refusal : Refusal} → Due bundle room (refused line refusal) → GivenToBundles line refusal
  only_due (full long) = (refl, inl refl)
  only_due (unended short u) = (refl, inr (inl refl))
  only_due (stray short u s) = (refl, inr (inr (inl refl)))
  only_due (more short u s m) = (refl, inr (inl refl))
  only_due (roomless whole h) = (refl, inr (inr (inr refl)))

  due_tells : {a : Answered} → Due bundle room a → TellsApart a
  due_tells (full long) = (omega arith, small_told (omega arith))
  due_tells (unended short u) = (omega arith, small_told (omega arith))
  due_tells (stray short u s) = (omega arith, small_told (omega arith))
  due_tells (more short u s m) = (omega arith, small_told (omega arith))
  due_tells (roomless whole h) = roomless-tells
  due_tells (written whole h) = tt

module _ (bundle : List ℕ) (room : ℕ) where
  -- 7: it is longer than 65,536 bytes
  pub length_exactly : (answered bundle room ≡ refused 0 Full) ↔ TooLong bundle
  length_exactly = Iff.trans (answered_exactly bundle room _) (full_due, full)

  -- 1: its last byte is no LF, or none is stray and a `clause` line has more fields
  pub form_exactly : (answered bundle room ≡ refused 0 Form) ↔ ((length bundle ≤ sheet_bytes) × OfBadForm bundle)
  form_exactly = Iff.trans (answered_exactly bundle room _) (form_due, λ told. due_form told.0 told.1)

  -- 2: a line stands before the first `clause`
  pub order_exactly :
      (answered bundle room ≡ refused 0 Order)
      ↔ ((length bundle ≤ sheet_bytes) × (¬ Unended bundle) × Stray (lines_of bundle))
  order_exactly = Iff.trans (answered_exactly bundle room _) (order_due, λ told. stray told.0 told.1 told.2)

  -- 9: nothing of all that, and the text is longer than the room
  pub room_exactly : (answered bundle room ≡ refused 0 Room) ↔ (IsBundle bundle × (room < length (bundle_text bundle)))
  room_exactly = Iff.trans (answered_exactly bundle room _) (room_due, λ told. roomless told.0 told.1)

  -- and else it is written
  pub written_exactly :
      {count : ℕ}
      → (answered bundle room ≡ Ok count)
      ↔ (IsBundle bundle × (length (bundle_text bundle) ≤ room) × (count ≡ length (bundle_text bundle)))
  written_exactly =
      Iff.trans (answered_exactly bundle room _)
      (written_due, λ told. subst (λ count. Due bundle room (Ok count)) (sym told.2) (written told.0 told.1))

  -- no other refusal is given, and none but at line 0
  pub given_only : {line : ℕ} {refusal : Refusal} → answered bundle room ≡ refused line refusal → GivenToBundles line refusal
  given_only e = only_due ((answered_exactly bundle room _).0 e)

  pub bundle_tells : TellsApart (answered bundle room)
  bundle_tells = due_tells (given_due bundle room)

-- rule 23.3: so a host can tell refusals and counts by the number
pub bundle-number :
    (bundle bundle' : List ℕ) (room room' : ℕ) → number_of (answered bundle room) ≡ number_of (answered bundle' room')
    → answered bundle room ≡ answered bundle' room'
bundle-number bundle bundle' room room' = number_tells _ _ (bundle_tells bundle room) (bundle_tells bundle' room')

-- ---- The lent bytes of one that is written

pub written-filled :
    (bundle out : List ℕ) → IsBundle bundle → length (bundle_text bundle) ≤ length out
    → filled bundle out ≡ bundle_text bundle ++ drop (length (bundle_text bundle)) out
unfolding filled
written-filled bundle out whole h =
    ap₂ (λ a r. filled_by a r.text out) (due_given bundle (length out) (written whole h)) (bundle_ran_lem bundle whole)

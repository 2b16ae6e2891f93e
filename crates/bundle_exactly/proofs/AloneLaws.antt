-- Rule 18.5: each clause is answered alone, and where two change places, so do their answers.
use Rattle.std.specs.Prelude.{ℕ, ◌≤◌, ◌<◌, ◌≡◌, refl, Bool, true, false, ◌&&◌, List, [], ◌∷◌, ◌++◌, ltb, length, take, drop, Ok}
use Rattle.std.proofs.Common.{ap, ap₂, subst, sym, ◌∙◌, append_assoc, append-nil, arith, length-append, ltb-true, ltb-false}
use Rattle.std.proofs.Math.Seq.{drop-append_seam, take-append_seam}
use Rattle.notation.specs.ChoiceLaws.{by_test}
use Rattle.refusals.specs.declared.Refusal.TheVariants.{Room}
use Rattle.sizes.specs.Sizes.{sheet_bytes}
use Rattle.split.specs.Split.{line_feed}
use Rattle.split.specs.SplitTrips.{all_free}
use Rattle.answered.specs.Answered.{refused}
use Rattle.bundles.specs.Bundles.{clause_word, sheet_of, clause_text, clause_texts, answered, filled}
use Rattle.bundles.specs.RunningLaws.{texts-first}
use Rattle.bundle_exactly.specs.Exactly.{
  Body,
  no_clause,
  are_bodies,
  bundle_of,
  bundle_text,
  sized_answer,
  Fits,
  AnsweredWith,
  around,
}
use Rattle.bundle_exactly.proofs.ReadBackLaws.{bodies_read, bodies_bundle}
use Rattle.bundle_exactly.proofs.RefusedLaws.{length_exactly, room_exactly, written_exactly, written-filled}

-- ---- What bodies are answered with

module _ (bodies : List Body) (all : are_bodies bodies ≡ true) where
  pub text-read : bundle_text (bundle_of bodies) ≡ clause_texts bodies
  text-read = ap clause_texts (bodies_read bodies all)

  pub bodies_roomless :
      (room : ℕ) → length (bundle_of bodies) ≤ sheet_bytes → room < length (clause_texts bodies)
      → answered (bundle_of bodies) room ≡ refused 0 Room
  bodies_roomless room short h =
      (room_exactly (bundle_of bodies) room).1 (bodies_bundle bodies all short, omega (arith, ap length text-read))

  module _ {room : ℕ} (fits : Fits bodies room) where
    text_short : length (bundle_text (bundle_of bodies)) ≤ room
    text_short = omega (arith, ap length text-read, fits.text-fits)

    bodies_written : answered (bundle_of bodies) room ≡ Ok (length (clause_texts bodies))
    bodies_written =
        (written_exactly (bundle_of bodies) room).1
        (bodies_bundle bodies all fits.bundle-fits, text_short, sym (ap length text-read))

  -- a bundle of bodies is refused for nothing but its length and the room
  pub bodies_answered :
      (room : ℕ) → answered (bundle_of bodies) room ≡ sized_answer (length (bundle_of bodies)) (length (clause_texts bodies)) room
  bodies_answered room =
      by_test (λ a. answered (bundle_of bodies) room ≡ a) (ltb sheet_bytes (length (bundle_of bodies)))
      (λ e. (length_exactly (bundle_of bodies) room).1 (ltb-true _ _ e))
      (λ e. (let short = ltb-false sheet_bytes (length (bundle_of bodies)) e in
      by_test (λ a. answered (bundle_of bodies) room ≡ a) (ltb room (length (clause_texts bodies)))
      (λ h. bodies_roomless room short (ltb-true _ _ h))
      (λ h. bodies_written (record { bundle-fits = short; text-fits = ltb-false _ _ h }))))

  -- and where both fit it is answered with the texts of the clauses, in order
  pub bodies_texts : (out : List ℕ) → Fits bodies (length out) → AnsweredWith (bundle_of bodies) out (clause_texts bodies)
  bodies_texts out fits =
      record {
        count = bodies_written fits;
        bytes =
            written-filled (bundle_of bodies) out (bodies_bundle bodies all fits.bundle-fits) (text_short fits)
            ∙ ap (λ (text : List ℕ). text ++ drop (length text) out) text-read;
      }

-- ---- A clause's own lines

pub texts_append : (a b : List Body) → clause_texts (a ++ b) ≡ clause_texts a ++ clause_texts b
unfolding clause_texts
texts_append [] b = refl
texts_append (body ∷ bodies) b =
    ap (λ (l : List ℕ). clause_text body ++ l) (texts_append bodies b)
    ∙ sym (append_assoc (clause_text body) (clause_texts bodies) (clause_texts b))

middle : (front own behind rest : List ℕ) → take (length own) (drop (length front) ((front ++ (own ++ behind)) ++ rest)) ≡ own
middle front own behind rest =
    ap (λ (l : List ℕ). take (length own) (drop (length front) l)) (append_assoc front (own ++ behind) rest)
    ∙ ap (take (length own)) (drop-append_seam front ((own ++ behind) ++ rest) ∙ append_assoc own behind rest)
    ∙ take-append_seam own (behind ++ rest)

module _ (before : List Body) (body : Body) (behind : List Body) where
  -- a body among others
  abbrev pub among : List Body
  among = before ++ (body ∷ behind)

  own-texts : clause_texts among ≡ clause_texts before ++ (clause_text body ++ clause_texts behind)
  own-texts = texts_append before (body ∷ behind) ∙ ap (λ (l : List ℕ). clause_texts before ++ l) (texts-first body behind)

  module _ (all : are_bodies among ≡ true) (out : List ℕ) (fits : Fits among (length out)) where
    -- what is printed for a clause stands between what is printed for those before and behind it
    pub own_lines : AnsweredWith (bundle_of among) out (clause_texts before ++ (clause_text body ++ clause_texts behind))
    own_lines = subst (AnsweredWith (bundle_of among) out) own-texts (bodies_texts among all out fits)

    -- rule 18.5: and depends on its own lines only
    pub own_part :
        take (length (clause_text body)) (drop (length (clause_texts before)) (filled (bundle_of among) out)) ≡ clause_text body
    own_part =
        ap (λ (l : List ℕ). take (length (clause_text body)) (drop (length (clause_texts before)) l)) own_lines.bytes
        ∙ middle (clause_texts before) (clause_text body) (clause_texts behind) _

-- ---- Two clauses exchanged

-- of what bodies side by side make side by side
module _
    (made : List Body → List ℕ) (apart : (a b : List Body) → made (a ++ b) ≡ made a ++ made b)
    (front x between y behind : List Body) where
  made-around : made (around front x between y behind) ≡ around (made front) (made x) (made between) (made y) (made behind)
  made-around = simp apart

  made-exchanged : length (made (around front x between y behind)) ≡ length (made (around front y between x behind))
  made-exchanged = simp (apart, length-append) (omega arith)

bundle_append : (a b : List Body) → bundle_of (a ++ b) ≡ bundle_of a ++ bundle_of b
unfolding bundle_of
bundle_append [] b = refl
bundle_append (body ∷ bodies) b =
    ap (λ (l : List ℕ). sheet_of (clause_word ∷ body) ++ l) (bundle_append bodies b)
    ∙ sym (append_assoc (sheet_of (clause_word ∷ body)) (bundle_of bodies) (bundle_of b))

bodies_append : (a b : List Body) → are_bodies (a ++ b) ≡ (are_bodies a && are_bodies b)
unfolding are_bodies
bodies_append [] b = refl
bodies_append (body ∷ bodies) b =
    elim (all_free line_feed body && no_clause body) as
    (λ t. (t && are_bodies (bodies ++ b)) ≡ ((t && are_bodies bodies) && are_bodies b))
    [ true ↦ bodies_append bodies b | false ↦ refl ]

all_exchanged : (f x b y c : Bool) → (f && (x && (b && (y && c)))) ≡ (f && (y && (b && (x && c))))
all_exchanged false x b y c = refl
all_exchanged true true b true c = refl
all_exchanged true true true false c = refl
all_exchanged true true false false c = refl
all_exchanged true false true true c = refl
all_exchanged true false false true c = refl
all_exchanged true false b false c = refl

bodies_around :
    (front x between y behind : List Body)
    → are_bodies (around front x between y behind)
    ≡ (are_bodies front && (are_bodies x && (are_bodies between && (are_bodies y && are_bodies behind))))
bodies_around front x between y behind = simp bodies_append

pub text-one : (body : Body) → clause_texts (body ∷ []) ≡ clause_text body
unfolding clause_texts
text-one body = append-nil (clause_text body)

module _ (before : List Body) (x : Body) (between : List Body) (y : Body) (behind : List Body) where
  -- the clauses in their order, and with x and y exchanged
  abbrev pub one : List Body
  one = around before (x ∷ []) between (y ∷ []) behind

  abbrev pub other : List Body
  other = around before (y ∷ []) between (x ∷ []) behind

  pub exchanged-length : length (bundle_of one) ≡ length (bundle_of other)
  exchanged-length = made-exchanged bundle_of bundle_append before (x ∷ []) between (y ∷ []) behind

  texts-length : length (clause_texts one) ≡ length (clause_texts other)
  texts-length = made-exchanged clause_texts texts_append before (x ∷ []) between (y ∷ []) behind

  exchanged_bodies : are_bodies one ≡ true → are_bodies other ≡ true
  exchanged_bodies all =
      bodies_around before (y ∷ []) between (x ∷ []) behind
      ∙ all_exchanged (are_bodies before) (are_bodies (y ∷ [])) (are_bodies between) (are_bodies (x ∷ [])) (are_bodies behind)
      ∙ sym (bodies_around before (x ∷ []) between (y ∷ []) behind)
      ∙ all

  -- both are written, with as many bytes, or both are refused alike
  pub exchanged-answered : are_bodies one ≡ true → (room : ℕ) → answered (bundle_of one) room ≡ answered (bundle_of other) room
  exchanged-answered all room =
      bodies_answered one all room
      ∙ ap₂ (λ (bundle text : ℕ). sized_answer bundle text room) exchanged-length texts-length
      ∙ sym (bodies_answered other (exchanged_bodies all) room)

  -- the texts of two bodies, with those of the clauses before, between and behind them
  abbrev pub texts : Body → Body → List ℕ
  texts first second =
      around (clause_texts before) (clause_text first) (clause_texts between) (clause_text second) (clause_texts behind)

  texts-around :
      (first second : Body) → clause_texts (around before (first ∷ []) between (second ∷ []) behind) ≡ texts first second
  texts-around first second =
      made-around clause_texts texts_append before (first ∷ []) between (second ∷ []) behind
      ∙ ap₂ (λ (a b : List ℕ). around (clause_texts before) a (clause_texts between) b (clause_texts behind))
      (text-one first)
      (text-one second)

  exchanged-fits : {room : ℕ} → Fits one room → Fits other room
  exchanged-fits fits =
      record {
        bundle-fits = omega (arith, exchanged-length, fits.bundle-fits);
        text-fits = omega (arith, texts-length, fits.text-fits);
      }

  -- rule 18.5: where they fit, the texts of x and y are exchanged and nothing else has moved
  pub exchanged :
      are_bodies one ≡ true → (out : List ℕ) → Fits one (length out)
      → AnsweredWith (bundle_of one) out (texts x y) × AnsweredWith (bundle_of other) out (texts y x)
  exchanged all out fits = (
    subst (AnsweredWith (bundle_of one) out) (texts-around x y) (bodies_texts one all out fits),
    subst (AnsweredWith (bundle_of other) out) (texts-around y x)
        (bodies_texts other (exchanged_bodies all) out (exchanged-fits fits)),
  )

-- What a bundle is made of (rule 18.1) can be read back from it, in one way.
use Rattle.std.specs.Prelude.{ℕ, ◌≤◌, ◌≡◌, refl, Bool, true, ◌&&◌, ◌||◌, ◌↔◌, List, [], ◌∷◌, ◌++◌, length}
use Rattle.std.proofs.Common.{ap, ap₂, subst, sym, ◌∙◌, true≢false, arith}
use Rattle.std.proofs.Math.Bool.{false, not}
use Rattle.std.proofs.lemmas.Bool.{not-true, not-false}
use Rattle.std.specs.Prelude.{if◌then◌else◌}
use Rattle.notation.specs.ChoiceLaws.{both_true}
use Rattle.sizes.specs.Sizes.{sheet_bytes}
use Rattle.split.specs.Split.{line_feed, before}
use Rattle.split.specs.SplitTrips.{free, all_free}
use Rattle.words.specs.Words.{same}
use Rattle.words.specs.WordsLaws.{same_exactly}
use Rattle.bundles.specs.Bundles.{lines_of, clause_word, is_clause, until_clause, clauses, sheet_of, is_unended, is_stray, is_more, has_more}
use Rattle.bundles.specs.LinesLaws.{
  whole_lines,
  lines_free,
  lines_sheet,
  sheet_append,
  sheet-ended,
  from_clause,
  until_from,
  free_until,
  stray_none,
}
use Rattle.bundle_exactly.specs.Exactly.{Body, no_clause, are_bodies, bundle_of, MadeOf, IsBundle}
use Rattle.bundle_exactly.proofs.TestsLaws.{unended_no, stray_no, more_no}

-- ---- The lines of a bundle that is made of bodies

bundle_lines : List Body → List (List ℕ)
bundle_lines [] = []
bundle_lines (body ∷ bodies) = clause_word ∷ (body ++ bundle_lines bodies)

bundle-sheet : (bodies : List Body) → bundle_of bodies ≡ sheet_of (bundle_lines bodies)
unfolding bundle_of bundle_lines sheet_of
bundle-sheet [] = refl
bundle-sheet (body ∷ bodies) =
    ap (λ (l : List ℕ). sheet_of (clause_word ∷ body) ++ l) (bundle-sheet bodies)
    ∙ sym (sheet_append (clause_word ∷ body) (bundle_lines bodies))

pub free_append :
    (mark : ℕ) (a b : List (List ℕ)) → all_free mark a ≡ true → all_free mark b ≡ true → all_free mark (a ++ b) ≡ true
unfolding all_free
free_append mark [] b ha hb = hb
free_append mark (part ∷ parts) b ha hb =
    let both = both_true (free mark part) (all_free mark parts) ha in
    simp (both.0, free_append mark parts b both.1 hb)

-- what is known of a body and the others
record Bodies (body : Body) (bodies : List Body) : Type 0 where
  clear : all_free line_feed body ≡ true
  own : no_clause body ≡ true
  others : are_bodies bodies ≡ true

bodies_known : (body : Body) (bodies : List Body) → are_bodies (body ∷ bodies) ≡ true → Bodies body bodies
unfolding are_bodies
bodies_known body bodies h =
    let b = both_true (all_free line_feed body && no_clause body) (are_bodies bodies) h in
    let c = both_true (all_free line_feed body) (no_clause body) b.0 in
    record { clear = c.0; own = c.1; others = b.1 }

lines_clear : (bodies : List Body) → are_bodies bodies ≡ true → all_free line_feed (bundle_lines bodies) ≡ true
unfolding bundle_lines all_free free
lines_clear [] h = refl
lines_clear (body ∷ bodies) h =
    let b = bodies_known body bodies h in
    free_append line_feed body (bundle_lines bodies) b.clear (lines_clear bodies b.others)

bundle_lines_lem : (bodies : List Body) → are_bodies bodies ≡ true → lines_of (bundle_of bodies) ≡ bundle_lines bodies
bundle_lines_lem bodies h = ap lines_of (bundle-sheet bodies) ∙ lines_sheet (bundle_lines bodies) (lines_clear bodies h)

-- ---- The clauses among them

no_clause_lem :
    (line : List ℕ) (lines : Body) → no_clause (line ∷ lines) ≡ true → (is_clause line ≡ false) × (no_clause lines ≡ true)
unfolding no_clause
no_clause_lem line lines h =
    let b = both_true (not (is_clause line)) (no_clause lines) h in
    (not-true (is_clause line) b.0, b.1)

is_clause_lem : is_clause clause_word ≡ true
unfolding is_clause before same
is_clause_lem = refl

until_next :
    (line : List ℕ) (lines : List (List ℕ)) → is_clause line ≡ false → until_clause (line ∷ lines) ≡ line ∷ until_clause lines
unfolding until_clause
until_next line lines e = simp e

-- nothing stands before the first `clause`, and a body stands before the next
until_none : (bodies : List Body) → until_clause (bundle_lines bodies) ≡ []
unfolding until_clause bundle_lines
until_none [] = refl
until_none (body ∷ bodies) = simp is_clause_lem

stray_lines : (bodies : List Body) → is_stray (bundle_lines bodies) ≡ false
unfolding is_stray
stray_lines bodies = rw (until_none bodies)

until_own :
    (body : Body) (bodies : List Body) → no_clause body ≡ true
    → until_clause (body ++ bundle_lines bodies) ≡ body
until_own [] bodies h = until_none bodies
until_own (line ∷ lines) bodies h =
    let b = no_clause_lem line lines h in
    until_next line (lines ++ bundle_lines bodies) b.0
    ∙ ap (λ (ls : List (List ℕ)). line ∷ ls) (until_own lines bodies b.1)

clauses-own : (body rest : Body) → no_clause body ≡ true → clauses (body ++ rest) ≡ clauses rest
unfolding clauses
clauses-own [] rest h = refl
clauses-own (line ∷ lines) rest h =
    let b = no_clause_lem line lines h in
    simp b.0 (clauses-own lines rest b.1)

more_own : (body rest : Body) → no_clause body ≡ true → has_more (body ++ rest) ≡ has_more rest
unfolding is_more has_more
more_own [] rest h = refl
more_own (line ∷ lines) rest h =
    let b = no_clause_lem line lines h in
    simp b.0 (more_own lines rest b.1)

clauses-first : (lines : List (List ℕ)) → clauses (clause_word ∷ lines) ≡ until_clause lines ∷ clauses lines
unfolding clauses
clauses-first lines = simp is_clause_lem

more_behind_clause : (lines : List (List ℕ)) → has_more (clause_word ∷ lines) ≡ has_more lines
unfolding is_more has_more same
more_behind_clause lines = simp is_clause_lem

clauses_lines : (bodies : List Body) → are_bodies bodies ≡ true → clauses (bundle_lines bodies) ≡ bodies
unfolding bundle_lines clauses
clauses_lines [] h = refl
clauses_lines (body ∷ bodies) h =
    let b = bodies_known body bodies h in
    clauses-first (body ++ bundle_lines bodies)
    ∙ ap₂ (λ (x : Body) (xs : List Body). x ∷ xs)
    (until_own body bodies b.own)
    (clauses-own body (bundle_lines bodies) b.own ∙ clauses_lines bodies b.others)

more_lines : (bodies : List Body) → are_bodies bodies ≡ true → has_more (bundle_lines bodies) ≡ false
unfolding bundle_lines has_more
more_lines [] h = refl
more_lines (body ∷ bodies) h =
    let b = bodies_known body bodies h in
    more_behind_clause (body ++ bundle_lines bodies) ∙ more_own body (bundle_lines bodies) b.own ∙ more_lines bodies b.others

-- ---- Lines that are those of a bundle

neither : (a b : Bool) → (a || b) ≡ false → (a ≡ false) × (b ≡ false)
neither true b h = absurd (true≢false h)
neither false b h = (refl, h)

module _ (line : List ℕ) (lines : List (List ℕ)) where
  more_clause : is_clause line ≡ true → has_more (line ∷ lines) ≡ false → (line ≡ clause_word) × (has_more lines ≡ false)
  unfolding is_more has_more
  more_clause e h =
      let n = neither (is_more line) (has_more lines) h in
      let alike : not (same line clause_word) ≡ false = rw e at n.0 in
      ((same_exactly line clause_word).0 (not-false (same line clause_word) alike), n.1)

  more_other : is_clause line ≡ false → has_more (line ∷ lines) ≡ has_more lines
  unfolding is_more has_more
  more_other e = simp e

-- the bodies that are read are those of the lines from the first `clause` on
lines_made : (lines : List (List ℕ)) → has_more lines ≡ false → bundle_lines (clauses lines) ≡ from_clause lines
unfolding bundle_lines clauses from_clause
lines_made [] h = refl
lines_made (line ∷ lines) h =
    elim (is_clause line) as
    (λ t. is_clause line ≡ t
    → bundle_lines (if t then until_clause lines ∷ clauses lines else clauses lines)
    ≡ (if t then line ∷ lines else from_clause lines)) [
      | true ↦ λ e. (let m = more_clause line lines e h in
          ap₂ (λ (l : List ℕ) (ls : List (List ℕ)). l ∷ ls)
          (sym m.0)
          (ap (λ (ls : List (List ℕ)). until_clause lines ++ ls) (lines_made lines m.1) ∙ until_from lines))
      | false ↦ λ e. lines_made lines (sym (more_other line lines e) ∙ h)
    ]
    refl

from_first : (lines : List (List ℕ)) → is_stray lines ≡ false → from_clause lines ≡ lines
unfolding from_clause
from_first [] h = refl
from_first (line ∷ lines) h = simp (stray_none line lines h)

own_until : (lines : List (List ℕ)) → no_clause (until_clause lines) ≡ true
unfolding until_clause no_clause
own_until [] = refl
own_until (line ∷ lines) =
    elim (is_clause line) as (λ t. is_clause line ≡ t → no_clause (if t then [] else line ∷ until_clause lines) ≡ true)
    [ true ↦ λ e. refl | false ↦ λ e. simp (e, own_until lines) ]
    refl

clauses_bodies : (lines : List (List ℕ)) → all_free line_feed lines ≡ true → are_bodies (clauses lines) ≡ true
unfolding clauses are_bodies all_free
clauses_bodies [] h = refl
clauses_bodies (line ∷ lines) h =
    let b = both_true (free line_feed line) (all_free line_feed lines) h in
    elim (is_clause line) as (λ t. are_bodies (if t then until_clause lines ∷ clauses lines else clauses lines) ≡ true) [
      | true ↦ simp (free_until line_feed lines b.1, own_until lines, clauses_bodies lines b.1)
      | false ↦ clauses_bodies lines b.1
    ]

-- ---- Read back

-- what is made of bodies is read so
pub bodies_read : (bodies : List Body) → are_bodies bodies ≡ true → clauses (lines_of (bundle_of bodies)) ≡ bodies
bodies_read bodies all = ap clauses (bundle_lines_lem bodies all) ∙ clauses_lines bodies all

-- and is a bundle, where it is not too long
pub bodies_bundle :
    (bodies : List Body) → are_bodies bodies ≡ true → length (bundle_of bodies) ≤ sheet_bytes → IsBundle (bundle_of bodies)
bodies_bundle bodies all short =
    record {
      short = short;
      ended = (unended_no (bundle_of bodies)).0 (ap is_unended (bundle-sheet bodies) ∙ sheet-ended (bundle_lines bodies));
      headed = (stray_no (lines_of (bundle_of bodies))).0 (ap is_stray (bundle_lines_lem bodies all) ∙ stray_lines bodies);
      plain = (more_no (lines_of (bundle_of bodies))).0 (ap has_more (bundle_lines_lem bodies all) ∙ more_lines bodies all);
    }

-- a bundle is made of the clauses that are read
pub read_back : (bundle : List ℕ) → IsBundle bundle → MadeOf bundle (clauses (lines_of bundle))
read_back bundle whole =
    let lines = lines_of bundle in
    let kept = lines_made lines ((more_no lines).1 whole.plain) ∙ from_first lines ((stray_no lines).1 whole.headed) in
    record {
      bodies_all = clauses_bodies lines (lines_free bundle);
      made = bundle-sheet (clauses lines) ∙ ap sheet_of kept ∙ whole_lines bundle ((unended_no bundle).1 whole.ended);
      only = λ others all made. sym (bodies_read others all) ∙ ap (λ b. clauses (lines_of b)) made;
    }

-- so bundles are those that are not too long and are made of bodies
pub bundle_exactly_lem :
    (bundle : List ℕ) → IsBundle bundle ↔ ((length bundle ≤ sheet_bytes) × ((bodies : List Body) × MadeOf bundle bodies))
bundle_exactly_lem bundle = (
  λ whole. (whole.short, (clauses (lines_of bundle), read_back bundle whole)),
  λ told. (let of = told.1.1 in
      subst IsBundle of.made (bodies_bundle told.1.0 of.bodies_all (omega (arith, ap length of.made, told.0)))),
)

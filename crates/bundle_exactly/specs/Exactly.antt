-- What a bundle is made of, what is due to it, and what it prints, in words of its bytes and lines alone: rules 18.1 to 18.8.
use Rattle.std.specs.Prelude.{ℕ, zero, suc, ◌≤◌, ◌<◌, ◌≡◌, Bool, true, not, ◌&&◌, ◌≢◌, ◌⊎◌, List, [], ◌∷◌, ◌++◌, ltb, length, drop, replicate, Ok}
use Rattle.std.specs.Prelude.{if◌then◌else◌}
use Rattle.notation.specs.Text.{bytes}
use Rattle.refusals.specs.declared.Refusal.{Refusal}
use Rattle.refusals.specs.declared.Refusal.TheVariants.{Form, Order, Full, Room}
use Rattle.sizes.specs.Sizes.{sheet_bytes}
use Rattle.split.specs.Split.{tab, line_feed, before, split}
use Rattle.split.specs.SplitTrips.{all_free}
use Rattle.answered.specs.Answered.{Answered, refused}
use Rattle.bundles.specs.Bundles.{lines_of, clause_word, is_clause, clauses, sheet_of, clause_texts, answered, filled}

-- ---- What a bundle is made of

-- the lines of a clause, behind its `clause`
abbrev pub Body : Type 0
Body = List (List ℕ)

-- none has the word `clause`
unfoldable pub no_clause : Body → Bool
no_clause [] = true
no_clause (line ∷ lines) = not (is_clause line) && no_clause lines

-- and none holds an LF
unfoldable pub are_bodies : List Body → Bool
are_bodies [] = true
are_bodies (body ∷ bodies) = (all_free line_feed body && no_clause body) && are_bodies bodies

-- for each body a line `clause` and its lines
unfoldable pub bundle_of : List Body → List ℕ
bundle_of [] = []
bundle_of (body ∷ bodies) = sheet_of (clause_word ∷ body) ++ bundle_of bodies

-- a bundle is made of these bodies, and of no others
pub record MadeOf (bundle : List ℕ) (bodies : List Body) : Type 0 where
  pub bodies_all : are_bodies bodies ≡ true
  pub made : bundle_of bodies ≡ bundle
  pub only : (others : List Body) → are_bodies others ≡ true → bundle_of others ≡ bundle → others ≡ bodies

-- ---- What a bundle is refused for (rule 18.6)

abbrev pub TooLong : List ℕ → Type 0
TooLong bundle = sheet_bytes < length bundle

-- its last byte is no LF
abbrev pub Unended : List ℕ → Type 0
Unended bundle = (front : List ℕ) × (last : ℕ) × (bundle ≡ front ++ (last ∷ [])) × (last ≢ line_feed)

-- the first line has another word than `clause`
abbrev pub Stray : List (List ℕ) → Type 0
Stray lines = (first : List ℕ) × (others : List (List ℕ)) × (lines ≡ first ∷ others) × (before tab first ≢ clause_word)

-- a line with the word `clause` has a field behind it
abbrev pub ClauseAndMore : List ℕ → Type 0
ClauseAndMore line = (field : List ℕ) × (fields : List (List ℕ)) × (split tab line ≡ clause_word ∷ (field ∷ fields))

abbrev pub MoreFields : List (List ℕ) → Type 0
MoreFields lines =
    (front : List (List ℕ)) × (line : List ℕ) × (others : List (List ℕ))
    × (lines ≡ front ++ (line ∷ others)) × ClauseAndMore line

-- no LF at its end, or a `clause` line with more fields where none is stray
abbrev pub OfBadForm : List ℕ → Type 0
OfBadForm bundle = Unended bundle ⊎ ((¬ Stray (lines_of bundle)) × MoreFields (lines_of bundle))

-- nothing of all that
pub record IsBundle (bundle : List ℕ) : Type 0 where
  pub short : length bundle ≤ sheet_bytes
  pub ended : ¬ Unended bundle
  pub headed : ¬ Stray (lines_of bundle)
  pub plain : ¬ MoreFields (lines_of bundle)

-- then it prints this, where there is room
abbrev pub bundle_text : List ℕ → List ℕ
bundle_text bundle = clause_texts (clauses (lines_of bundle))

-- ---- What is due to a bundle, in the order of rule 18.6

pub data Due (bundle : List ℕ) (room : ℕ) : Answered → Type 0 where
  full : TooLong bundle → Due bundle room (refused 0 Full)
  unended : length bundle ≤ sheet_bytes → Unended bundle → Due bundle room (refused 0 Form)
  stray : length bundle ≤ sheet_bytes → ¬ Unended bundle → Stray (lines_of bundle) → Due bundle room (refused 0 Order)
  more :
      length bundle ≤ sheet_bytes → ¬ Unended bundle → ¬ Stray (lines_of bundle) → MoreFields (lines_of bundle)
      → Due bundle room (refused 0 Form)
  roomless : IsBundle bundle → room < length (bundle_text bundle) → Due bundle room (refused 0 Room)
  written : IsBundle bundle → length (bundle_text bundle) ≤ room → Due bundle room (Ok (length (bundle_text bundle)))

-- what is ever given: 7, 1, 2 or 9, and at line 0
abbrev pub GivenToBundles : ℕ → Refusal → Type 0
GivenToBundles line refusal =
    (line ≡ 0) × ((refusal ≡ Full) ⊎ (refusal ≡ Form) ⊎ (refusal ≡ Order) ⊎ (refusal ≡ Room))

-- ---- What a bundle of bodies is answered with

-- by the lengths of the bundle and of its text alone
abbrev pub sized_answer : ℕ → ℕ → ℕ → Answered
sized_answer bundle text room =
    if ltb sheet_bytes bundle then refused 0 Full else if ltb room text then refused 0 Room else Ok text

-- rule 18.5: the bundle and its text fit
pub record Fits (bodies : List Body) (room : ℕ) : Type 0 where
  pub bundle-fits : length (bundle_of bodies) ≤ sheet_bytes
  pub text-fits : length (clause_texts bodies) ≤ room

-- a bundle is answered with a text: its count, its bytes, and the lent bytes past them as they were
pub record AnsweredWith (bundle out text : List ℕ) : Type 0 where
  pub count : answered bundle (length out) ≡ Ok (length text)
  pub bytes : filled bundle out ≡ text ++ drop (length text) out

-- two lists, with what stands before, between and behind them
abbrev pub around : {A : Type 0} → List A → List A → List A → List A → List A → List A
around front x between y behind = front ++ (x ++ (between ++ (y ++ behind)))

-- ---- What is printed

-- a line that begins with the fields `no`, `0`
abbrev pub NoAtZero : List ℕ → Type 0
NoAtZero line = (fields : List (List ℕ)) × (split tab line ≡ bytes "no" ∷ (bytes "0" ∷ fields))

-- a line that ends an answer: its word is `end` or `no`
abbrev pub EndsAnswer : List ℕ → Type 0
EndsAnswer line = (before tab line ≡ bytes "end") ⊎ (before tab line ≡ bytes "no")

-- something is so of each line
abbrev pub Each : (List ℕ → Type 0) → List (List ℕ) → Type 0
Each So [] = Unit {0}
Each So (line ∷ lines) = So line × Each So lines

-- rule 18.8: the last line of a text ends an answer, and no line before it does
pub record EndsOnce (text : List ℕ) : Type 0 where
  pub front : List (List ℕ)
  pub last : List ℕ
  pub parted : lines_of text ≡ front ++ (last ∷ [])
  pub goes_on : Each (λ line. ¬ EndsAnswer line) front
  pub ends : EndsAnswer last

-- so many clauses with no line
abbrev pub empties : ℕ → List Body
empties n = replicate n []

-- and what such a clause prints, so many times
unfoldable pub empty_texts : ℕ → List ℕ
empty_texts zero = []
empty_texts (suc n) = bytes "end\t1\t0\n" ++ empty_texts n

-- Laws of lines and of the clauses among them: cut a line at a time, put together again, and split before the first `clause`.
use Rattle.std.specs.Prelude.{ℕ, zero, suc, ◌-◌, ◌≤◌, ◌<◌, ◌≡◌, refl, true, false, not, ◌&&◌, ◌||◌, eqb, ltb, length, get_or, take}
use Rattle.std.proofs.Math.Path.{ap}
use Rattle.std.proofs.Common.{ap₂, sym, ◌∙◌, arith, length-append, eqb-true, ltb-false}
use mathlib.Core.List.{List, [], ◌∷◌, ◌++◌, append_assoc, nil≢cons}
use Rattle.std.proofs.lemmas.Bool.{not-true, not-false}
use Rattle.std.specs.Prelude.{if◌then◌else◌}
use Rattle.notation.specs.ChoiceLaws.{both_true, by_test}
use Rattle.split.specs.Split.{line_feed, before, after, split, in_front}
use Rattle.split.specs.SplitLaws.{split_more, split-last, split-some}
use Rattle.split.specs.SplitTrips.{free, all_free, all_free-split}
use Rattle.words.specs.Words.{same}
use Rattle.bundles.specs.Bundles.{lines_of, is_clause, until_clause, clauses, sheet_of, is_unended, is_stray, is_more, has_more, clause_word}

-- ---- All parts but the last

abbrev all_but_last : List (List ℕ) → List (List ℕ)
all_but_last parts = take (length parts - 1) parts

but_last-next :
    (part : List ℕ) (parts : List (List ℕ)) (next : List ℕ) (others : List (List ℕ)) → parts ≡ next ∷ others
    → all_but_last (part ∷ parts) ≡ part ∷ all_but_last parts
but_last-next part parts next others e =
    let n : suc (length parts) - 1 ≡ suc (length parts - 1) = omega (arith, ap length e) in
    ap (λ (k : ℕ). take k (part ∷ parts)) n

free-take : (mark n : ℕ) (parts : List (List ℕ)) → all_free mark parts ≡ true → all_free mark (take n parts) ≡ true
unfolding all_free
free-take mark zero parts h = refl
free-take mark (suc n) [] h = refl
free-take mark (suc n) (part ∷ parts) h =
    let b = both_true (free mark part) (all_free mark parts) h in
    simp (b.0, free-take mark n parts b.1)

-- ---- A line at a time

module _ (s : List ℕ) where
  -- where an LF is left, the line before it comes first
  pub lines_more :
      length (before line_feed s) < length s → lines_of s ≡ before line_feed s ∷ lines_of (after line_feed s)
  unfolding lines_of
  lines_more h =
      ap all_but_last (split_more line_feed s h)
      ∙ but_last-next (before line_feed s) (split line_feed (after line_feed s)) _ _ (split-some line_feed (after line_feed s))

  -- where none is, there is no line left
  pub lines_last : length s ≤ length (before line_feed s) → lines_of s ≡ []
  unfolding lines_of
  lines_last h = ap all_but_last (split-last line_feed s h)

-- no line holds an LF
pub lines_free : (s : List ℕ) → all_free line_feed (lines_of s) ≡ true
unfolding lines_of
lines_free s = free-take line_feed (length (split line_feed s) - 1) (split line_feed s) (all_free-split line_feed s)

-- a line that holds no LF is found again in front of one
pub before-line : (line rest : List ℕ) → free line_feed line ≡ true → before line_feed (line ++ (line_feed ∷ rest)) ≡ line
unfolding before free
before-line [] rest h = refl
before-line (c ∷ cs) rest h =
    let b = both_true (not (eqb c line_feed)) (free line_feed cs) h in
    simp (not-true (eqb c line_feed) b.0, before-line cs rest b.1)

pub after_line : (line rest : List ℕ) → free line_feed line ≡ true → after line_feed (line ++ (line_feed ∷ rest)) ≡ rest
unfolding after free
after_line [] rest h = refl
after_line (c ∷ cs) rest h =
    let b = both_true (not (eqb c line_feed)) (free line_feed cs) h in
    simp (not-true (eqb c line_feed) b.0, after_line cs rest b.1)

-- ---- Sheets

pub sheet_append : (a b : List (List ℕ)) → sheet_of (a ++ b) ≡ sheet_of a ++ sheet_of b
unfolding sheet_of
sheet_append [] b = refl
sheet_append (line ∷ lines) b =
    ap (λ (l : List ℕ). line ++ (line_feed ∷ l)) (sheet_append lines b)
    ∙ sym (append_assoc line (line_feed ∷ sheet_of lines) (sheet_of b))

-- the lines of a sheet are those that it was made of
pub lines_sheet : (lines : List (List ℕ)) → all_free line_feed lines ≡ true → lines_of (sheet_of lines) ≡ lines
unfolding sheet_of all_free
lines_sheet [] h = lines_last [] (omega arith)
lines_sheet (line ∷ lines) h =
    let b = both_true (free line_feed line) (all_free line_feed lines) h in
    let first = before-line line (sheet_of lines) b.0 in
    let rest = ap lines_of (after_line line (sheet_of lines) b.0) ∙ lines_sheet lines b.1 in
    lines_more (line ++ (line_feed ∷ sheet_of lines)) (omega (arith, ap length first, length-append line (line_feed ∷ sheet_of lines)))
    ∙ ap₂ (λ (l : List ℕ) (ls : List (List ℕ)). l ∷ ls) first rest

-- ---- A text that ends in LF is the sheet of its lines

-- a byte in front of a text that is the sheet of its lines
sheet-in_front :
    (c : ℕ) (parts : List (List ℕ)) (d : ℕ) (ds : List ℕ) → sheet_of (all_but_last parts) ≡ d ∷ ds
    → sheet_of (all_but_last (in_front c parts)) ≡ c ∷ (d ∷ ds)
unfolding sheet_of in_front
sheet-in_front c [] d ds e = absurd (nil≢cons e)
sheet-in_front c (part ∷ []) d ds e = absurd (nil≢cons e)
sheet-in_front c (part ∷ (next ∷ parts)) d ds e =
    ap sheet_of (but_last-next (c ∷ part) (next ∷ parts) next parts refl)
    ∙ ap (λ (l : List ℕ). c ∷ l) (sym (ap sheet_of (but_last-next part (next ∷ parts) next parts refl)) ∙ e)

unended_next : (c d : ℕ) (ds : List ℕ) → is_unended (c ∷ (d ∷ ds)) ≡ is_unended (d ∷ ds)
unfolding is_unended
unended_next c d ds =
    let n : suc (suc (length ds)) - 1 ≡ suc (suc (length ds) - 1) = omega arith in
    ap (λ (k : ℕ). not (eqb (get_or (c ∷ (d ∷ ds)) k line_feed) line_feed)) n

whole_front :
    (c : ℕ) (parts : List (List ℕ)) (part : List ℕ) (others : List (List ℕ)) → parts ≡ part ∷ others
    → (d : ℕ) (ds : List ℕ) → sheet_of (all_but_last parts) ≡ d ∷ ds
    → sheet_of (all_but_last (if eqb c line_feed then [] ∷ parts else in_front c parts)) ≡ c ∷ (d ∷ ds)
unfolding sheet_of
whole_front c parts part others e d ds whole =
    by_test (λ ps. sheet_of (all_but_last ps) ≡ c ∷ (d ∷ ds)) (eqb c line_feed)
    (λ t. ap sheet_of (but_last-next [] parts part others e)
    ∙ ap₂ (λ (x : ℕ) (l : List ℕ). x ∷ l) (sym (eqb-true c line_feed t)) whole)
    (λ t. sheet-in_front c parts d ds whole)

pub whole_lines : (s : List ℕ) → is_unended s ≡ false → sheet_of (lines_of s) ≡ s
unfolding sheet_of lines_of is_unended split
whole_lines [] h = refl
whole_lines (c ∷ []) h =
    let e : eqb c line_feed ≡ true = not-false (eqb c line_feed) h in
    simp e (ap (λ (x : ℕ). x ∷ []) (sym (eqb-true c line_feed e)))
whole_lines (c ∷ (d ∷ ds)) h =
    let whole = whole_lines (d ∷ ds) (sym (unended_next c d ds) ∙ h) in
    whole_front c (split line_feed (d ∷ ds)) _ _ (split-some line_feed (d ∷ ds)) d ds whole

ended-behind : (line rest : List ℕ) → is_unended rest ≡ false → is_unended (line ++ (line_feed ∷ rest)) ≡ false
unfolding is_unended
ended-behind [] [] h = refl
ended-behind [] (d ∷ ds) h = unended_next line_feed d ds ∙ h
ended-behind (c ∷ []) rest h = unended_next c line_feed rest ∙ ended-behind [] rest h
ended-behind (c ∷ (d ∷ ds)) rest h = unended_next c d (ds ++ (line_feed ∷ rest)) ∙ ended-behind (d ∷ ds) rest h

-- and a sheet of lines ends in LF
pub sheet-ended : (lines : List (List ℕ)) → is_unended (sheet_of lines) ≡ false
unfolding sheet_of is_unended
sheet-ended [] = refl
sheet-ended (line ∷ lines) = ended-behind line (sheet_of lines) (sheet-ended lines)

-- ---- The lines from the first whose word is `clause` on

unfoldable pub from_clause : List (List ℕ) → List (List ℕ)
from_clause [] = []
from_clause (line ∷ lines) = if is_clause line then line ∷ lines else from_clause lines

pub until_from : (lines : List (List ℕ)) → until_clause lines ++ from_clause lines ≡ lines
unfolding until_clause from_clause
until_from [] = refl
until_from (line ∷ lines) =
    elim (is_clause line) as
    (λ t. (if t then [] else line ∷ until_clause lines) ++ (if t then line ∷ lines else from_clause lines) ≡ line ∷ lines)
    [ true ↦ refl | false ↦ ap (λ (ls : List (List ℕ)). line ∷ ls) (until_from lines) ]

pub free_until : (mark : ℕ) (lines : List (List ℕ)) → all_free mark lines ≡ true → all_free mark (until_clause lines) ≡ true
unfolding until_clause all_free
free_until mark [] h = refl
free_until mark (line ∷ lines) h =
    let b = both_true (free mark line) (all_free mark lines) h in
    elim (is_clause line) as (λ t. all_free mark (if t then [] else line ∷ until_clause lines) ≡ true)
    [ true ↦ refl | false ↦ simp (b.0, free_until mark lines b.1) ]

pub free-from : (mark : ℕ) (lines : List (List ℕ)) → all_free mark lines ≡ true → all_free mark (from_clause lines) ≡ true
unfolding from_clause all_free
free-from mark [] h = refl
free-from mark (line ∷ lines) h =
    let b = both_true (free mark line) (all_free mark lines) h in
    elim (is_clause line) as (λ t. all_free mark (if t then line ∷ lines else from_clause lines) ≡ true)
    [ true ↦ h | false ↦ free-from mark lines b.1 ]

-- the lines before it hold no clause
pub clauses-from : (lines : List (List ℕ)) → clauses (from_clause lines) ≡ clauses lines
unfolding from_clause clauses
clauses-from [] = refl
clauses-from (line ∷ lines) =
    elim (is_clause line) as
    (λ t. is_clause line ≡ t
    → clauses (if t then line ∷ lines else from_clause lines)
    ≡ (if t then until_clause lines ∷ clauses lines else clauses lines))
    [ true ↦ λ e. simp e | false ↦ λ e. clauses-from lines ]
    refl

pub more_from : (lines : List (List ℕ)) → has_more (from_clause lines) ≡ has_more lines
unfolding from_clause has_more is_more
more_from [] = refl
more_from (line ∷ lines) =
    elim (is_clause line) as
    (λ t. is_clause line ≡ t
    → has_more (if t then line ∷ lines else from_clause lines) ≡ ((t && not (same line clause_word)) || has_more lines))
    [ true ↦ λ e. simp e | false ↦ λ e. more_from lines ]
    refl

pub stray_from : (lines : List (List ℕ)) → is_stray (from_clause lines) ≡ false
unfolding is_stray until_clause from_clause
stray_from [] = refl
stray_from (line ∷ lines) =
    by_test (λ ls. is_stray ls ≡ false) (is_clause line) (λ e. simp e) (λ e. stray_from lines)

-- where none stands before the first `clause`, the first line is one
pub stray_none : (line : List ℕ) (lines : List (List ℕ)) → is_stray (line ∷ lines) ≡ false → is_clause line ≡ true
unfolding is_stray until_clause
stray_none line lines =
    elim (is_clause line) as (λ t. ltb 0 (length (if t then [] else line ∷ until_clause lines)) ≡ false → t ≡ true)
    [ true ↦ λ h. refl | false ↦ λ h. absurd (omega (arith, ltb-false 0 (suc (length (until_clause lines))) h)) ]

-- The tests by which the answer goes hold exactly of what a bundle is refused for.
use Rattle.std.specs.Prelude.{ℕ, suc, ◌-◌, ◌<◌, ◌≡◌, refl, Bool, true, false, not, ◌||◌, ◌↔◌, ◌≢◌, ltb, get_or, take}
use Rattle.std.proofs.Math.Path.{ap, ap₂}
use Rattle.std.proofs.Common.{sym, ◌∙◌, true≢false, arith, length-append, take-suc, take_all}
use Rattle.std.proofs.lemmas.Bool.{false≢true}
use mathlib.Core.List.{List, [], ◌∷◌, ◌++◌, nil≢cons}
use Rattle.std.proofs.Math.ListN.{length, drop}
use Rattle.std.proofs.lemmas.List.{get_or_at}
use borrow.Author.Tests.{eqb-false, ne_eqb, not-true, ltb-true, ltb-false}
use Rattle.notation.specs.ChoiceLaws.{both_true}
use Rattle.split.specs.Split.{tab, line_feed, before, after, split, in_front}
use Rattle.split.specs.SplitLaws.{take-before, split_more, split-some}
use Rattle.words.specs.Words.{same}
use Rattle.words.specs.WordsLaws.{same_exactly}
use Rattle.bundles.specs.Bundles.{clause_word, is_clause, until_clause, is_unended, is_stray, is_more, has_more}
use Rattle.bundles.specs.RunningLaws.{stray_first}
use Rattle.bundle_exactly.specs.Exactly.{Unended, Stray, ClauseAndMore, MoreFields}

-- a test that holds exactly of something fails exactly of what is not so
no_test : {A : Type 0} (test : Bool) → (test ≡ true) ↔ A → (test ≡ false) ↔ (¬ A)
no_test true e = (λ h. absurd (true≢false h), λ h. absurd (h (e.0 refl)))
no_test false e = (λ h a. false≢true (e.1 a), λ h. refl)

-- ---- The last byte

unended_some : (bundle : List ℕ) → is_unended bundle ≡ true → 0 < length bundle
unfolding is_unended
unended_some [] h = absurd (false≢true h)
unended_some (c ∷ cs) h = omega arith

last_of : List ℕ → ℕ
last_of bundle = get_or bundle (length bundle - 1) line_feed

last-behind : (bundle : List ℕ) → 0 < length bundle → bundle ≡ take (length bundle - 1) bundle ++ (last_of bundle ∷ [])
unfolding last_of
last-behind bundle some =
    sym (take_all (suc (length bundle - 1)) bundle (omega arith)) ∙ take-suc bundle (length bundle - 1) line_feed (omega arith)

last-is : (front : List ℕ) (last : ℕ) → last_of (front ++ (last ∷ [])) ≡ last
unfolding last_of
last-is front last = get_or_at front last [] line_feed _ (omega (arith, length-append front (last ∷ [])))

module _ (bundle : List ℕ) where
  pub unended_exactly : (is_unended bundle ≡ true) ↔ Unended bundle
  unfolding is_unended last_of
  unended_exactly = (
    λ h. (take (length bundle - 1) bundle, last_of bundle, last-behind bundle (unended_some bundle h), eqb-false _ _ (not-true _ h)),
    λ told. ap is_unended told.2 ∙ simp (last-is told.0 told.1, ne_eqb told.1 line_feed told.3),
  )

  pub unended_no : (is_unended bundle ≡ false) ↔ (¬ Unended bundle)
  unended_no = no_test (is_unended bundle) unended_exactly

-- ---- The word of a line

module _ (line : List ℕ) where
  clause_exactly : (is_clause line ≡ true) ↔ (before tab line ≡ clause_word)
  unfolding is_clause
  clause_exactly = same_exactly (before tab line) clause_word

  clause_no : (is_clause line ≡ false) ↔ (before tab line ≢ clause_word)
  clause_no = no_test (is_clause line) clause_exactly

-- ---- The first line

pub stray_exactly : (lines : List (List ℕ)) → (is_stray lines ≡ true) ↔ Stray lines
unfolding is_stray until_clause
stray_exactly [] = (λ h. absurd (false≢true h), λ told. absurd (nil≢cons told.2))
stray_exactly (line ∷ lines) = (
  λ h. (line, lines, refl, (clause_no line).0 (not-true (is_clause line) (sym (stray_first line lines) ∙ h))),
  λ told. (let first : told.0 ≡ line = cc in
      stray_first line lines ∙ ap not ((clause_no line).1 (λ word. told.3 (ap (before tab) first ∙ word)))),
)

pub stray_no : (lines : List (List ℕ)) → (is_stray lines ≡ false) ↔ (¬ Stray lines)
stray_no lines = no_test (is_stray lines) (stray_exactly lines)

-- ---- `clause` lines with more fields

-- a line that is more than its word has a tab behind it
longer : (line : List ℕ) → line ≢ before tab line → length (before tab line) < length line
longer line differ =
    elim (ltb (length (before tab line)) (length line)) as
    (λ t. ltb (length (before tab line)) (length line) ≡ t → length (before tab line) < length line) [
      | true ↦ λ e. ltb-true _ _ e
      | false ↦ λ e. absurd (differ (sym (take_all (length (before tab line)) line (ltb-false _ _ e)) ∙ take-before tab line))
    ]
    refl

one_field_lem : split tab clause_word ≡ clause_word ∷ []
unfolding split in_front
one_field_lem = refl

module _ (line : List ℕ) where
  differ_exactly : (same line clause_word ≡ false) ↔ (line ≢ clause_word)
  differ_exactly = no_test (same line clause_word) (same_exactly line clause_word)

  more_fields : is_more line ≡ true → ClauseAndMore line
  unfolding is_more
  more_fields h =
      let b = both_true (is_clause line) (not (same line clause_word)) h in
      let word = (clause_exactly line).0 b.0 in
      let differ = differ_exactly.0 (not-true (same line clause_word) b.1) in
      let rest = after tab line in
      let parts = split_more tab line (longer line (λ e. differ (e ∙ word))) in (
        before tab rest,
        drop 1 (split tab rest),
        parts ∙ ap₂ (λ (l : List ℕ) (ls : List (List ℕ)). l ∷ ls) word (split-some tab rest),
      )

  fields_more : ClauseAndMore line → is_more line ≡ true
  unfolding is_more
  fields_more told =
      let word : before tab line ≡ clause_word = cc (split-some tab line, told.2) in
      let differ : line ≢ clause_word = λ e. omega (arith, ap length (sym one_field_lem ∙ ap (split tab) (sym e) ∙ told.2)) in
      simp ((clause_exactly line).1 word, differ_exactly.1 differ)

or-true : (a : Bool) → (a || true) ≡ true
or-true true = refl
or-true false = refl

more_first : (line : List ℕ) (lines : List (List ℕ)) → has_more (line ∷ lines) ≡ (is_more line || has_more lines)
unfolding has_more
more_first line lines = refl

more_found : (lines : List (List ℕ)) → has_more lines ≡ true → MoreFields lines
unfolding has_more
more_found [] = λ h. absurd (false≢true h)
more_found (line ∷ lines) =
    elim (is_more line) as (λ t. is_more line ≡ t → (t || has_more lines) ≡ true → MoreFields (line ∷ lines)) [
      | true ↦ λ e h. ([], line, lines, refl, more_fields line e)
      | false ↦ λ e h. (let told = more_found lines h in
          (line ∷ told.0, told.1, told.2, ap (λ (ls : List (List ℕ)). line ∷ ls) told.3, told.4))
    ]
    refl

found_more :
    (front : List (List ℕ)) (line : List ℕ) (others : List (List ℕ)) → ClauseAndMore line
    → has_more (front ++ (line ∷ others)) ≡ true
found_more [] line others told = more_first line others ∙ ap (λ t. t || has_more others) (fields_more line told)
found_more (first ∷ front) line others told =
    more_first first (front ++ (line ∷ others))
    ∙ ap (λ t. is_more first || t) (found_more front line others told)
    ∙ or-true (is_more first)

module _ (lines : List (List ℕ)) where
  pub more_exactly : (has_more lines ≡ true) ↔ MoreFields lines
  more_exactly = (more_found lines, λ told. ap has_more told.3 ∙ found_more told.0 told.1 told.2 told.4)

  pub more_no : (has_more lines ≡ false) ↔ (¬ MoreFields lines)
  more_no = no_test (has_more lines) more_exactly

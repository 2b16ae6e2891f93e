-- Laws of the table of words: what holds of each row holds of the row that is found, by its word or by its number.
use Rattle.std.specs.Prelude.{ℕ, suc, ◌+◌, ◌≤◌, ◌<◌, ◌≡◌, refl, Bool, true, false, List, [], ◌∷◌, eqb, length}
use Rattle.std.proofs.Common.{sym, subst, arith, eq-eqb, ne_eqb, eqb-true}
use Rattle.std.proofs.lemmas.Bool.{eqb-false}
use Rattle.std.specs.Prelude.{if◌then◌else◌}
use Rattle.notation.specs.ChoiceLaws.{either, by_test}
use Rattle.words.specs.Words.{same, code_among}
use Rattle.event_lines.specs.Words.{Word, line_words}
use Rattle.event_lines.specs.EventLines.{no_word, word_among}
use Rattle.event_lines.specs.Reading.{spellings, word_code, word_from, word_at}

-- of each word and its number, numbered from `first` on
abbrev pub Each : (ℕ → Word → Type 0) → ℕ → List Word → Type 0
Each Holds first [] = Unit {0}
Each Holds first (word ∷ words) = Holds first word × Each Holds (suc first) words

infixr 4 ◌&◌
abbrev pub ◌&◌ : {A B : Type 0} → A → B → A × B
a & b = (a, b)

-- ---- By its word

pub among-each :
    (Holds : Word → Type 0) (first : ℕ) (words : List Word) → Each (λ code. Holds) first words → Holds no_word → (field : List ℕ)
    → Holds (word_among words field)
unfolding word_among
among-each Holds first [] each none field = none
among-each Holds first (word ∷ words) each none field =
    either Holds (same field word.spelled) each.0 (among-each Holds (suc first) words each.1 none field)

-- ---- By its number

pub from_each :
    (Holds : ℕ → Word → Type 0) (first : ℕ) (words : List Word) → Each Holds first words → (code : ℕ) → first ≤ code
    → (first + length words ≤ code → Holds code no_word) → Holds code (word_from first words code)
unfolding word_from
from_each Holds first [] each code at past = past (omega arith)
from_each Holds first (word ∷ words) each code at past =
    by_test (Holds code) (eqb code first)
    (λ e. subst (λ (n : ℕ). Holds n word) (sym (eqb-true code first e)) each.0)
    (λ e. from_each Holds (suc first) words each.1 code (omega (arith, eqb-false code first e)) (λ h. past (omega arith)))

-- ---- A word's number is that of its row

-- a number before the first is not given
code_past : (first before : ℕ) (words : List (List ℕ)) (field : List ℕ) → 0 < before → before < first → eqb (code_among first words field) before ≡ false
unfolding code_among
code_past first before [] field some h = ne_eqb 0 before (λ e. omega arith)
code_past first before (word ∷ words) field some h =
    either (λ (code : ℕ). eqb code before ≡ false) (same field word)
    (ne_eqb first before (λ e. omega arith))
    (code_past (suc first) before words field some (omega arith))

word_from_lem : (first : ℕ) (words : List Word) (field : List ℕ) → 0 < first → word_among words field ≡ word_from first words (code_among first (spellings words) field)
unfolding word_among word_from code_among
word_from_lem first [] field some = refl
word_from_lem first (word ∷ words) field some =
    elim (same field word.spelled) as
    (λ t. (if t then word else word_among words field) ≡ word_from first (word ∷ words) (if t then first else code_among (suc first) (spellings words) field)) [
      | true ↦ rw (eq-eqb first first refl)
      | false ↦ rw (code_past (suc first) first (spellings words) field some (omega arith)) (word_from_lem (suc first) words field (omega arith))
    ]

pub word_at_lem : (field : List ℕ) → word_among line_words field ≡ word_at (word_code field)
unfolding word_code word_at
word_at_lem field = word_from_lem 1 line_words field (omega arith)

-- ---- A number is found by one test after the other

module _ (first : ℕ) (word : List ℕ) (words : List (List ℕ)) (field : List ℕ) {test : Bool} where
  pub code_here : test ≡ same field word → test ≡ true → first ≡ code_among first (word ∷ words) field
  unfolding code_among
  code_here told e = rw (← told, e)

  pub code_on :
      {n : ℕ} → test ≡ same field word → test ≡ false → n ≡ code_among (suc first) words field
      → n ≡ code_among first (word ∷ words) field
  unfolding code_among
  code_on told e on = rw (← told, e) on

pub code-none : (first : ℕ) (field : List ℕ) → 0 ≡ code_among first [] field
unfolding code_among
code-none first field = refl

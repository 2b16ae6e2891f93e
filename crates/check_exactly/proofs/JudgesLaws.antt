-- Rule 21.6: whatever meets the contract of `check_sheets::answer` judges a sheet that is read by its meaning.
use Rattle.std.specs.Prelude.{ℕ, ◌≤◌, ◌≡◌, refl, Bool, true, false, ◌↔◌, List, ◌++◌, length, get_or, Ok}
use Rattle.std.proofs.Common.{ap, sym, subst, ◌∙◌, true≢false, arith, le-ltb}
use Rattle.std.proofs.lemmas.Bool.{false≢true}
use mathlib.Core.Logic.Iff
use Rattle.sizes.specs.Sizes.{sheet_bytes}
use Rattle.answered.specs.Answered.{Answered, filled_by}
use Rattle.steps.specs.declared.CheckLine.{CheckLine}
use Rattle.check_sheets.specs.CheckSheets.{reads, reading, accepted_text, rejected_text, word_of, roomed, answered_by, answered, filled, Tells, ByVerdict}
use Rattle.check_exactly.specs.Exactly.{AllRead}
use Rattle.check_exactly.proofs.ReadingLaws.{reads_exactly}
use Rattle.check_exactly.proofs.RefusedLaws.{short_answered}
use Rattle.check_exactly.specs.Judges.{Shows, Judges}

-- ---- The words tell the verdict

words_apart : (rest other : List ℕ) → accepted_text ++ rest ≡ rejected_text ++ other → ⊥
words_apart rest other e = absurd (omega (arith, ap (λ (l : List ℕ). get_or l 0 0) e))

module _ (out : List ℕ) {after : List ℕ} where
  shown_once : (shown word : Bool) → Shows (word_of shown) out after → Shows (word_of word) out after → shown ≡ word
  shown_once true true is e = refl
  shown_once true false is e = absurd (words_apart _ _ (sym is ∙ e))
  shown_once false true is e = absurd (words_apart _ _ (sym e ∙ is))
  shown_once false false is e = refl

  shown_exactly : (shown word : Bool) → Shows (word_of shown) out after → Shows (word_of word) out after ↔ (shown ≡ word)
  shown_exactly shown word is = (shown_once shown word is, λ same. subst (λ b. Shows (word_of b) out after) same is)

not-true : (b : Bool) → (b ≡ false) ↔ (b ≡ true → ⊥)
not-true true = (λ e. absurd (true≢false e), λ never. absurd (never refl))
not-true false = (λ e. false≢true, λ never. refl)

-- ---- What is written

wide : (right : Bool) {room : ℕ} → length accepted_text ≤ room → length (word_of right) ≤ room
wide true h = h
wide false h = h

wide-answered : (right : Bool) {room : ℕ} → length accepted_text ≤ room → roomed right room ≡ Ok (length (word_of right))
unfolding roomed
wide-answered right {room} h = simp (le-ltb room (length (word_of right)) (wide right h))

filled-shows :
    (right : Bool) (sheet out : List ℕ) {lines : List CheckLine} → length sheet ≤ sheet_bytes → reading sheet ≡ reads lines
    → length accepted_text ≤ length out
    → Shows (word_of right) out (filled right sheet out)
unfolding filled
filled-shows right sheet out short read room =
    ap (λ (a : Answered). filled_by a (word_of right) out)
    (short_answered right sheet (length out) short
    ∙ ap (λ r. answered_by right r (length out)) read
    ∙ wide-answered right room)

-- ---- Accepted exactly when right (rule 21.6)

pub judges_exactly :
    (sheet out : List ℕ) {a : Answered} {after : List ℕ} {lines : List CheckLine}
    → ByVerdict sheet (λ right. (a ≡ answered right sheet (length out)) × (after ≡ filled right sheet out))
    → length sheet ≤ sheet_bytes
    → AllRead sheet lines
    → length accepted_text ≤ length out
    → Judges lines out after
judges_exactly sheet out {after = after} {lines = lines} verdict short all room =
    let read = (reads_exactly sheet lines).1 all in
    let shows = verdict.holds.1 ∙ filled-shows verdict.right sheet out short read room in
    let tells = subst (Tells verdict.right) read verdict.tells in
    record {
      accepted = Iff.trans (shown_exactly out verdict.right true shows) tells;
      rejected = Iff.trans (shown_exactly out verdict.right false shows) (Iff.trans (not-true verdict.right) (Iff.not tells));
    }

-- Rule 4.11 of check sheets: a sheet's reading is a refusal, or its lines, exactly when its lines say so.
use Rattle.std.specs.Prelude.{ℕ, suc, ◌≡◌, refl, true, false, ◌↔◌, length, Some, None}
use Rattle.std.proofs.Math.Path.{ap}
use Rattle.std.proofs.Common.{ap₂, sym, subst, ◌∙◌, inl, inr, ⊎_elim, arith, lt-ltb}
use mathlib.Core.List.{List, [], ◌∷◌, reverse, reverse_aux}
use Rattle.refusals.specs.declared.Refusal.{Refusal}
use Rattle.refusals.specs.declared.Refusal.TheVariants.{Form, Order}
use Rattle.refusals.specs.Refusals.{accepted}
use Rattle.split.specs.Split.{line_feed}
use Rattle.split.specs.SplitLaws.{split-some}
use Rattle.steps.specs.declared.CheckLine.{CheckLine}
use Rattle.steps.specs.Steps.{steps_of, is_uncalled, refusal_of}
use Rattle.check_lines.specs.Behind.{Line}
use Rattle.check_lines.specs.CheckLines.{line_says}
use Rattle.classes.specs.Cases.{true_or_false}
use Rattle.check_sheets.specs.CheckSheets.{Reading, bad, reads, with_line, last_read, line_read, read_from, reading}
use Rattle.check_exactly.specs.Exactly.{ReadSoFar, none, more, Behind, LineThat, Unended, Ended, LineAt, UnendedAt, UncalledAt, RefusedBy, FirstBad, AllRead}

-- ---- Lines that are read stand in front of what is read behind them

abbrev with_earlier : List CheckLine → Reading → Reading
with_earlier earlier (bad number refusal) = bad number refusal
with_earlier earlier (reads lines) = reads (reverse_aux earlier lines)

with_none : (r : Reading) → with_earlier [] r ≡ r
with_none (bad number refusal) = refl
with_none (reads lines) = refl

with_more : (line : CheckLine) (earlier : List CheckLine) (r : Reading) → with_earlier earlier (with_line line r) ≡ with_earlier (line ∷ earlier) r
with_more line earlier (bad number refusal) = refl
with_more line earlier (reads lines) = refl

line-accepted :
    (earlier : List CheckLine) (number : ℕ) {said : Line} {line : CheckLine} (others : List CheckLine → Reading)
    → said ≡ Some line → refusal_of earlier line ≡ accepted
    → line_read earlier number said others ≡ with_line line (others (line ∷ earlier))
line-accepted earlier number others says good = simp (says, good)

read_behind :
    {sheet : List ℕ} {count : ℕ} {earlier : List CheckLine} {rest : List (List ℕ)} → ReadSoFar sheet count earlier rest
    → reading sheet ≡ with_earlier earlier (read_from earlier (suc count) rest)
unfolding reading read_from
read_behind none = sym (with_none _)
read_behind (more {count} {earlier} {text} {next} {parts} {line} read says good) =
    read_behind read
    ∙ ap (with_earlier earlier) (line-accepted earlier _ _ says good)
    ∙ with_more line earlier (read_from (line ∷ earlier) (suc (suc count)) (next ∷ parts))

-- ---- What stands behind them decides

line_refused :
    (earlier : List CheckLine) (number : ℕ) (refusal : Refusal) (said : Line) (others : List CheckLine → Reading) → RefusedBy refusal earlier said
    → line_read earlier number said others ≡ bad number refusal
line_refused earlier number refusal None others form = ap (bad number) (sym form)
line_refused earlier number refusal (Some line) others given =
    rw (sym given) refl

module _ {sheet : List ℕ} {count : ℕ} {earlier : List CheckLine} where
  line_decides :
      {refusal : Refusal} (rest : List (List ℕ)) → ReadSoFar sheet count earlier rest → LineThat (RefusedBy refusal earlier) rest
      → reading sheet ≡ bad (suc count) refusal
  unfolding read_from
  line_decides [] read holds = absurd holds
  line_decides (left ∷ []) read holds = absurd holds
  line_decides (text ∷ (next ∷ parts)) read holds =
      read_behind read ∙ ap (with_earlier earlier) (line_refused earlier (suc count) _ (line_says text) _ holds)

  unended_decides : (rest : List (List ℕ)) → ReadSoFar sheet count earlier rest → Unended rest → reading sheet ≡ bad (suc count) Form
  unfolding read_from last_read
  unended_decides [] read some = absurd some
  unended_decides (left ∷ []) read some = read_behind read ∙ simp (lt-ltb 0 (length left) (omega arith))
  unended_decides (text ∷ (next ∷ parts)) read some = absurd some

  module _ {rest : List (List ℕ)} (read : ReadSoFar sheet count earlier rest) (ended : Ended rest) where
    end_reached : reading sheet ≡ with_earlier earlier (last_read earlier (suc count) [])
    unfolding read_from
    end_reached = read_behind read ∙ ap (λ parts. with_earlier earlier (read_from earlier (suc count) parts)) ended

    uncalled_decides : is_uncalled (steps_of earlier) ≡ true → reading sheet ≡ bad count Order
    unfolding last_read
    uncalled_decides uncalled = end_reached ∙ simp uncalled (ap (λ (n : ℕ). bad n Order) (omega arith))

    called_decides : is_uncalled (steps_of earlier) ≡ false → reading sheet ≡ reads (reverse earlier)
    unfolding last_read
    called_decides called = end_reached ∙ simp called

-- ---- What the lines tell is what is read

abbrev LinesTell : List ℕ → Reading → Type 0
LinesTell sheet (bad number refusal) = FirstBad sheet number refusal
LinesTell sheet (reads lines) = AllRead sheet lines

module _ {sheet : List ℕ} {number : ℕ} {refusal : Refusal} where
  line_given : LineAt sheet number (RefusedBy refusal) → reading sheet ≡ bad number refusal
  line_given at = line_decides at.rest at.read at.holds.1 ∙ ap (λ (n : ℕ). bad n refusal) (sym at.holds.0)

  unended_given : (refusal ≡ Form) × UnendedAt sheet number → reading sheet ≡ bad number refusal
  unended_given (form, at) = unended_decides at.rest at.read at.holds.1 ∙ ap₂ bad (sym at.holds.0) (sym form)

  uncalled_given : (refusal ≡ Order) × UncalledAt sheet number → reading sheet ≡ bad number refusal
  uncalled_given (order, at) = uncalled_decides at.read at.holds.1 at.holds.2 ∙ ap₂ bad (sym at.holds.0) (sym order)

is_read : (sheet : List ℕ) (r : Reading) → LinesTell sheet r → reading sheet ≡ r
is_read sheet (bad number refusal) told = ⊎_elim line_given (⊎_elim unended_given uncalled_given) told
is_read sheet (reads lines) told = called_decides told.read told.holds.1 told.holds.2 ∙ ap reads (sym told.holds.0)

-- and they always tell some reading
abbrev ToldByLines : List ℕ → Type 0
ToldByLines sheet = (r : Reading) × LinesTell sheet r

module _ {sheet : List ℕ} {count : ℕ} {earlier : List CheckLine} where
  here :
      {rest : List (List ℕ)} {Holds : ℕ → List CheckLine → List (List ℕ) → Type 0} → ReadSoFar sheet count earlier rest
      → Holds count earlier rest → Behind sheet Holds
  here read holds = record { count = count; earlier = earlier; rest = _; read = read; holds = holds }

  line-told :
      {text next : List ℕ} {parts : List (List ℕ)} → ReadSoFar sheet count earlier (text ∷ (next ∷ parts))
      → (said : Line) → line_says text ≡ said
      → ((line : CheckLine) → line_says text ≡ Some line → refusal_of earlier line ≡ accepted → ToldByLines sheet)
      → ToldByLines sheet
  line-told read None says others = (bad _ Form, inl (here read (refl, rw says refl)))
  line-told read (Some line) says others =
      elim (refusal_of earlier line) as (λ r. refusal_of earlier line ≡ r → ToldByLines sheet) [
        | Some refusal ↦ λ refused. (bad _ refusal, inl (here read (refl, rw says (sym refused))))
        | None ↦ λ good. others line says good
      ]
      refl

  end-told : ReadSoFar sheet count earlier ([] ∷ []) → ToldByLines sheet
  end-told read =
      ⊎_elim
      (λ uncalled. (bad _ Order, inr (inr (refl, here read (refl, refl, uncalled)))))
      (λ called. (reads _, here read (refl, refl, called)))
      (true_or_false (is_uncalled (steps_of earlier)))

told-from :
    {sheet : List ℕ} {count : ℕ} {earlier : List CheckLine} (next : List ℕ) (parts : List (List ℕ))
    → ReadSoFar sheet count earlier (next ∷ parts)
    → ToldByLines sheet
told-from [] [] read = end-told read
told-from (byte ∷ left) [] read = (bad _ Form, inr (inl (refl, here read (refl, omega arith))))
told-from text (next ∷ parts) read =
    line-told read (line_says text) refl (λ line says good. told-from next parts (more read says good))

module _ (sheet : List ℕ) where
  told : ToldByLines sheet
  told = told-from _ _ (subst (ReadSoFar sheet 0 []) (split-some line_feed sheet) none)

  reading_exactly : (r : Reading) → (reading sheet ≡ r) ↔ LinesTell sheet r
  reading_exactly r = (λ e. subst (LinesTell sheet) (sym (is_read sheet told.0 told.1) ∙ e) told.1, is_read sheet r)

  -- rule 4.11
  pub bad_exactly : (number : ℕ) (refusal : Refusal) → (reading sheet ≡ bad number refusal) ↔ FirstBad sheet number refusal
  bad_exactly number refusal = reading_exactly (bad number refusal)

  pub reads_exactly : (lines : List CheckLine) → (reading sheet ≡ reads lines) ↔ AllRead sheet lines
  reads_exactly lines = reading_exactly (reads lines)

-- Laws of an answer that stays within its bounds.
use Rattle.std.specs.Prelude.{ℕ, ◌≤◌, ◌≡◌, refl, List, length, drop, Ok, Err}
use Rattle.std.proofs.Common.{subst, arith, length-append, length-drop}
use Rattle.refusals.specs.declared.Refusal.{Refusal}
use Rattle.answered.specs.Answered.{Answered, refused, filled_by}

-- a count is the text's and there is room for it; a line is one of so many
abbrev pub Within : ℕ → List ℕ → ℕ → Answered → Type 0
Within room text lines (Ok count) = (count ≤ room) × (count ≡ length text)
Within room text lines (Err told) = told.line ≤ lines

module _ (room : ℕ) (text : List ℕ) (lines : ℕ) (a : Answered) (w : Within room text lines a) where
  pub written_bound : {count : ℕ} → a ≡ Ok count → (count ≤ room) × (count ≡ length text)
  written_bound e = subst (Within room text lines) e w

  pub refused_bound : {line : ℕ} {refusal : Refusal} → a ≡ refused line refusal → line ≤ lines
  refused_bound e = subst (Within room text lines) e w

-- the lent bytes stay as many
pub filled_by-length :
    (text out : List ℕ) (lines : ℕ) (a : Answered) → Within (length out) text lines a
    → length (filled_by a text out) ≡ length out
filled_by-length text out lines (Ok count) w =
    omega (arith, length-append text (drop count out), length-drop count out, w.0, w.1)
filled_by-length text out lines (Err told) w = refl

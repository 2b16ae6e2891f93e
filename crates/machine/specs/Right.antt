-- When the instructions of a check sheet are right: rule 21.5. Nothing here says how that is found out.
use Rattle.std.specs.Prelude.{ℕ, ◌≡◌, ◌↔◌, List, [], ◌∷◌}
use Rattle.steps.specs.declared.CheckLine.{CheckLine}
use Rattle.machine.specs.Machine.{Contents, run}
use Rattle.machine.specs.Wanted.{wanted}

-- all equalities of a collection hold
abbrev pub AllHold : List (ℕ × ℕ) → Type 0
AllHold [] = Unit {0}
AllHold ((a, b) ∷ pairs) = (a ≡ b) × AllHold pairs

-- rule 21.5 for one choice of the numbers: the demands of both sides hold or fail together, and where they hold, what calls
-- read and the list of subterms are what is wanted
pub record RightFor (entry : Contents) (number : ℕ → ℕ) (left_by : ℕ → ℕ → ℕ) (lines : List CheckLine) : Type 0 where
  pub equalities : AllHold (run entry number left_by lines).equalities ↔ AllHold (wanted entry number lines).equalities
  pub arguments : AllHold (run entry number left_by lines).equalities → (run entry number left_by lines).read ≡ (wanted entry number lines).arguments
  pub subterms : AllHold (run entry number left_by lines).equalities → (run entry number left_by lines).subterms ≡ (wanted entry number lines).subterms

-- for every choice
abbrev pub Right : List CheckLine → Type 0
Right lines = (entry : Contents) (number : ℕ → ℕ) (left_by : ℕ → ℕ → ℕ) → RightFor entry number left_by lines

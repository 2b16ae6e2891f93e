-- What the answer to a check sheet that is read says of its meaning: rule 21.6.
use Rattle.std.specs.Prelude.{ℕ, ◌≡◌, ◌↔◌, List, ◌++◌, length, drop}
use Rattle.steps.specs.declared.CheckLine.{CheckLine}
use Rattle.machine.specs.Right.{Right}
use Rattle.check_sheets.specs.CheckSheets.{accepted_text, rejected_text}

-- the lent bytes begin with a text, and those past it are as they were
abbrev pub Shows : List ℕ → List ℕ → List ℕ → Type 0
Shows text out after = after ≡ text ++ drop (length text) out

-- `accepted` exactly when the instructions are right, `rejected` exactly when they are not
pub record Judges (lines : List CheckLine) (out after : List ℕ) : Type 0 where
  pub accepted : Shows accepted_text out after ↔ Right lines
  pub rejected : Shows rejected_text out after ↔ (Right lines → ⊥)

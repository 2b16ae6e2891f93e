-- What equalities force. A choice gives each number a value.
use Rattle.std.specs.Prelude.{ℕ, ◌≡◌, List, [], ◌∷◌}

-- under a choice the two of each pair have one value
unfoldable pub Holds : (ℕ → ℕ) → List (ℕ × ℕ) → Type 0
Holds ρ [] = Unit
Holds ρ ((x, y) ∷ pairs) = (ρ x ≡ ρ y) × Holds ρ pairs

-- whatever choice makes the pairs hold, it gives x and y one value
abbrev pub Forces : List (ℕ × ℕ) → ℕ → ℕ → Type 0
Forces pairs x y = (ρ : ℕ → ℕ) → Holds ρ pairs → ρ x ≡ ρ y

-- whatever choice makes the pairs hold makes the others hold
abbrev pub AllForced : List (ℕ × ℕ) → List (ℕ × ℕ) → Type 0
AllForced pairs others = (ρ : ℕ → ℕ) → Holds ρ pairs → Holds ρ others

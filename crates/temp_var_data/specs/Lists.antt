-- Words on lists of numbers.
use Rattle.std.specs.Prelude.{ℕ, Bool, false, ◌||◌}
use mathlib.Core.List.{List, [], ◌∷◌, Memᴰ}

-- some entry passes a test
unfoldable pub any : (ℕ → Bool) → List ℕ → Bool
any test [] = false
any test (n ∷ ns) = test n || any test ns

-- n is an entry
infix 5 ◌∈◌
abbrev pub ◌∈◌ : ℕ → List ℕ → Type 0
n ∈ ns = Memᴰ n ns

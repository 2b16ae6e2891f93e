-- A text printed into lent bytes `out` at a place `at`.
use Rattle.std.specs.Prelude.{ℕ, ◌+◌, ◌≡◌, List, ◌++◌, leb, length, take, drop}
use Rattle.std.specs.Prelude.{if◌then◌else◌}

-- the lent bytes afterwards: those before the place, then the text, then those behind it; what finds no room is left out
unfoldable pub printed : List ℕ → ℕ → List ℕ → List ℕ
printed out at text = take (length out) (take at out ++ (text ++ drop (at + length text) out))

-- the place after the text, or one past the room where the text does not fit
unfoldable pub place_after : ℕ → ℕ → List ℕ → ℕ
place_after room at text = if leb (at + length text) room then at + length text else room + 1

-- what every function that prints ensures: the place that it answers, and every lent byte afterwards
pub record Put (out : List ℕ) (at : ℕ) (text : List ℕ) (next : ℕ) (after : List ℕ) : Type 0 where
  pub place : next ≡ place_after (length out) at text
  pub bytes : after ≡ printed out at text

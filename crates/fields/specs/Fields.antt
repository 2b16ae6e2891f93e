-- What is left of a line: the mark before its next field, whatever byte that is, and all that follows; or nothing, where no
-- field is left.
use Rattle.std.specs.Prelude.{ℕ, ◌+◌, List, [], ◌∷◌, length, drop}
use Rattle.split.specs.Split.{before, split}

-- where the next field ends, counted from the mark before it
unfoldable pub field_end : ℕ → List ℕ → ℕ
field_end mark rest = 1 + length (before mark (drop 1 rest))

-- the fields that are left
unfoldable pub fields_left : ℕ → List ℕ → List (List ℕ)
fields_left mark [] = []
fields_left mark (c ∷ rest) = split mark rest

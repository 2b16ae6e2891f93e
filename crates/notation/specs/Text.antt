-- A text between quotes as the list of its bytes, so that words and sheets can be read in the definitions.
-- Every text here is ASCII: a character's code is its byte.
use Rattle.std.specs.Prelude.{ℕ, List, [], ◌∷◌}
use Prim.Native.Char.{Char, code}
use Prim.Native.String.{String, [] as end, ◌∷◌ as ◌then◌}

abbrev pub bytes : String → List ℕ
bytes end = []
bytes (c then s) = code c ∷ bytes s

-- one character's byte
abbrev pub byte : Char → ℕ
byte c = code c

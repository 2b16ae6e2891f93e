-- A list of bytes cut at a mark: at LF into lines, rule 2.1, and at tabs into fields, rule 2.2.
use Rattle.std.specs.Prelude.{ℕ, List, [], ◌∷◌, ◌++◌, eqb}
use Rattle.std.specs.Prelude.{if◌then◌else◌}
use Rattle.notation.specs.Text.{byte}

abbrev pub tab : ℕ
tab = byte "\t"

abbrev pub line_feed : ℕ
line_feed = byte "\n"

-- what stands before the first mark
unfoldable pub before : ℕ → List ℕ → List ℕ
before mark [] = []
before mark (c ∷ cs) = if eqb c mark then [] else c ∷ before mark cs

-- what follows the first mark
unfoldable pub after : ℕ → List ℕ → List ℕ
after mark [] = []
after mark (c ∷ cs) = if eqb c mark then cs else after mark cs

-- one byte more in front of the first part
unfoldable pub in_front : ℕ → List (List ℕ) → List (List ℕ)
in_front c [] = (c ∷ []) ∷ []
in_front c (part ∷ parts) = (c ∷ part) ∷ parts

-- the parts between the marks: one more part than there are marks
unfoldable pub split : ℕ → List ℕ → List (List ℕ)
split mark [] = [] ∷ []
split mark (c ∷ cs) = if eqb c mark then [] ∷ split mark cs else in_front c (split mark cs)

-- the parts put together again, with the mark between each two
unfoldable pub joined : ℕ → List (List ℕ) → List ℕ
joined mark [] = []
joined mark (part ∷ []) = part
joined mark (part ∷ (next ∷ parts)) = part ++ (mark ∷ joined mark (next ∷ parts))

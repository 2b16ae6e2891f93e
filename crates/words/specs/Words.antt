-- A field is a word exactly if it has the word's bytes, rule 2.4; and the numbers by which code tells words apart.
use Rattle.std.specs.Prelude.{ℕ, suc, List, [], ◌∷◌, Bool, true, false, ◌&&◌, eqb}
use Rattle.std.specs.Prelude.{if◌then◌else◌}

unfoldable pub same : List ℕ → List ℕ → Bool
same [] [] = true
same [] (d ∷ ds) = false
same (c ∷ cs) [] = false
same (c ∷ cs) (d ∷ ds) = eqb c d && same cs ds

-- the number of a word among words that are numbered from `first` on; 0 where it is none of them
unfoldable pub code_among : ℕ → List (List ℕ) → List ℕ → ℕ
code_among first [] word = 0
code_among first (known ∷ others) word = if same word known then first else code_among (suc first) others word

-- A table that is made row by row, each from its number.
use Rattle.std.specs.Prelude.{ℕ, ◌<◌, ◌≡◌, length, get_or}
use Rattle.std.proofs.Common.{sym, ◌∙◌, arith, ext_get_or}
use mathlib.Core.List.{List, map}
use Rattle.std.proofs.lemmas.List.{get_or_default}
use Rattle.restricting_sets.specs.Restricting.{below}
use Rattle.restricting_sets.specs.BelowLaws.{map-length, map_at}

-- within a list it does not matter what stands past its end
pub any_default : (ns : List ℕ) (i a b : ℕ) → i < length ns → get_or ns i a ≡ get_or ns i b
any_default ns i a b h = get_or_default ns i a b h

-- a table whose rows are all made
pub rows_made :
    {A : Type 0} (f : ℕ → A) (table : List A) (n : ℕ) (default : A) → length table ≡ n
    → ((v : ℕ) → v < n → get_or table v default ≡ f v) → table ≡ map f (below n)
rows_made f table n default size made =
    ext_get_or default table (map f (below n)) (size ∙ sym (map-length f n))
    (λ v h. made v (omega (arith, size)) ∙ sym (map_at f n v default (omega (arith, size))))

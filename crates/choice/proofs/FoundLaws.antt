-- Laws of the first of a list that passes a test: the search of an iterator finds what the definition does.
use Rattle.std.specs.Prelude.{ℕ, zero, suc, ◌≡◌, refl, Bool, List, [], ◌∷◌, Option, Some}
use Rattle.std.specs.List.{find, range_with_len}
use Rattle.std.specs.Prelude.{if◌then◌else◌}
use Rattle.std.proofs.Common.{ap, ◌∙◌, add-one}
use Rattle.notation.specs.Lists.{numbers_from}
use Rattle.choice.specs.Choice.{first}

pub find-first : (test : ℕ → Bool) (rs : List ℕ) → find test rs ≡ first test rs
unfolding first
find-first test [] = refl
find-first test (r ∷ rs) = ap (λ (x : Option ℕ). if test r then Some r else x) (find-first test rs)

pub range-numbers : (a n : ℕ) → range_with_len a n ≡ numbers_from a n
unfolding numbers_from
range-numbers a zero = refl
range-numbers a (suc n) = ap (λ (rs : List ℕ). a ∷ rs) (ap (λ (b : ℕ). range_with_len b n) (add-one a) ∙ range-numbers (suc a) n)

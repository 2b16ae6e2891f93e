-- The members of a set as a list, and a step made for each entry of a list.
use Rattle.std.specs.Prelude.{ℕ, ◌-◌, List, [], ◌∷◌}
use Rattle.std.specs.Prelude.{if◌then◌else◌}
use Rattle.notation.specs.Lists.{numbers_from}
use Rattle.sizes.specs.Sizes.{variables}
use Rattle.bit_set.specs.BitSet.{has}

-- those of a list that are members of a set
unfoldable pub members_among : ℕ → List ℕ → List ℕ
members_among set [] = []
members_among set (v ∷ vs) = if has set v then v ∷ members_among set vs else members_among set vs

-- the members of a set of variables, in order
abbrev pub members : ℕ → List ℕ
members set = members_among set (numbers_from 0 variables)

-- those from v on
abbrev pub members_from : ℕ → ℕ → List ℕ
members_from set v = members_among set (numbers_from v (variables - v))

-- what becomes of something when a step is made for each entry of a list
unfoldable pub each : {A : Type 0} → (A → ℕ → A) → A → List ℕ → A
each step a [] = a
each step a (n ∷ ns) = each step (step a n) ns

-- Classes of names: what a list of equalities makes equal. Each name has a label, the least name of its class.
use Rattle.std.specs.Prelude.{ℕ, ◌+◌, ◌*◌, min, max, Bool, true, ◌&&◌, List, [], ◌∷◌, map, ltb, eqb, get_or}
use Rattle.std.specs.Prelude.{if◌then◌else◌}
use Rattle.std.specs.List.{list_all}
use Rattle.notation.specs.Lists.{numbers_from}
use Rattle.sizes.specs.Sizes.{steps}

-- the names are the numbers below this: three for each step, and three more
abbrev pub names : ℕ
names = 3 * (steps + 1)

-- numbers taken two at a time; a lone last one is left out
unfoldable pub pairs_of : List ℕ → List (ℕ × ℕ)
pairs_of [] = []
pairs_of (x ∷ []) = []
pairs_of (x ∷ (y ∷ rest)) = (x, y) ∷ pairs_of rest

-- whether both numbers of a pair are names, and those of all pairs
unfoldable pub both_names : ℕ → ℕ → Bool
both_names x y = ltb x names && ltb y names

unfoldable pub in_names : List (ℕ × ℕ) → Bool
in_names [] = true
in_names ((x, y) ∷ pairs) = both_names x y && in_names pairs

-- the label of a name; a number that is no name is its own
unfoldable pub label_of : List ℕ → ℕ → ℕ
label_of labels x = get_or labels x x

-- one label put in another's place
unfoldable pub exchanged : ℕ → ℕ → ℕ → ℕ
exchanged old new label = if eqb label old then new else label

-- the classes of two names made one: the smaller of their labels takes the larger one's place; a pair with a number that is no
-- name changes nothing
unfoldable pub joined : List ℕ → ℕ → ℕ → List ℕ
joined labels x y =
    if both_names x y
    then map (exchanged (max (label_of labels x) (label_of labels y)) (min (label_of labels x) (label_of labels y))) labels
    else labels

-- pair after pair
unfoldable pub labels_after : List ℕ → List (ℕ × ℕ) → List ℕ
labels_after labels [] = labels
labels_after labels ((x, y) ∷ pairs) = labels_after (joined labels x y) pairs

-- each name in a class of its own
unfoldable pub own_labels : List ℕ
own_labels = numbers_from 0 names

unfoldable pub labelling : List (ℕ × ℕ) → List ℕ
labelling pairs = labels_after own_labels pairs

-- the two of a pair have one label, and those of all pairs
abbrev pub is_same : List ℕ → ℕ × ℕ → Bool
is_same labels p = eqb (label_of labels p.0) (label_of labels p.1)

unfoldable pub all_same : List ℕ → List (ℕ × ℕ) → Bool
all_same labels pairs = list_all (is_same labels) pairs

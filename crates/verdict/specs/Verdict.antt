-- The verdict on a check sheet, by what its equalities force.
use Rattle.std.specs.Prelude.{ℕ, Bool, true, false, ◌&&◌, List, [], ◌∷◌, eqb}
use Rattle.classes.specs.Classes.{label_of, labelling, all_same}
use Rattle.symbolic.specs.declared.Symbols.{Symbols}
use Rattle.symbolic.specs.Symbolic.{listed}

-- two subterms, a step and a name each, agree: in the step, and their names are forced to be equal
abbrev pub agree : List ℕ → (ℕ × ℕ) × (ℕ × ℕ) → Bool
agree labels p = eqb p.0.0 p.1.0 && eqb (label_of labels p.0.1) (label_of labels p.1.1)

-- two subterm lists agree, in length, steps and order, and their names are forced to be equal
unfoldable pub same_subterms : List ℕ → List (ℕ × ℕ) → List (ℕ × ℕ) → Bool
same_subterms labels [] [] = true
same_subterms labels [] (other ∷ others) = false
same_subterms labels (subterm ∷ subterms) [] = false
same_subterms labels ((step, name) ∷ subterms) ((other_step, other) ∷ others) =
    eqb step other_step && (eqb (label_of labels name) (label_of labels other) && same_subterms labels subterms others)

-- the instructions' equalities force the variables', the arguments and the subterms, and the variables' force theirs
unfoldable pub decided_by : List (ℕ × ℕ) → List (ℕ × ℕ) → List (ℕ × ℕ) → List (ℕ × ℕ) → List (ℕ × ℕ) → Bool
decided_by demands wants claims made due =
    all_same (labelling demands) wants
    && (all_same (labelling demands) claims
    && (same_subterms (labelling demands) made due && all_same (labelling wants) demands))

abbrev pub decided : Symbols → Bool
decided s =
    decided_by
    (listed s.doing.demands)
    (listed s.wanting.wants)
    (listed s.claims)
    (listed s.doing.made)
    (listed s.wanting.due)

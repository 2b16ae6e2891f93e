-- The verdict in its order: what each part says of the whole once those before it have held.
use Rattle.std.specs.Prelude.{ℕ, ◌≡◌, Bool, true, false, List, take}
use Rattle.classes.specs.Classes.{pairs_of, labelling, all_same}
use Rattle.symbolic.specs.declared.Pairs.{Pairs}
use Rattle.symbolic.specs.Symbolic.{listed}
use Rattle.verdict.specs.Verdict.{same_subterms, decided_by}

module _ (demands wants claims made due : Pairs) where
  abbrev whole : Bool
  whole = decided_by (listed demands) (listed wants) (listed claims) (listed made) (listed due)

  -- the cells that count, and the labels of the pairs demanded
  module _ {d w labels : List ℕ}
      (demanded : d ≡ take demands.count demands.cells)
      (wanted : w ≡ take wants.count wants.cells)
      (labelled : labels ≡ labelling (pairs_of d)) where
    pub wants_unforced : {r : Bool} → r ≡ all_same labels (pairs_of w) → r ≡ false → false ≡ whole
    unfolding decided_by listed
    wants_unforced e unforced = simp (← demanded, ← wanted, ← labelled, ← e, unforced)

    module _ {r : Bool} (e : r ≡ all_same labels (pairs_of w)) (wants-forced : r ≡ true) {c : List ℕ}
        (claimed : c ≡ take claims.count claims.cells) where
      pub claims_unforced : {q : Bool} → q ≡ all_same labels (pairs_of c) → q ≡ false → false ≡ whole
      unfolding decided_by listed
      claims_unforced f unforced = simp (← demanded, ← wanted, ← labelled, ← e, wants-forced, ← claimed, ← f, unforced)

      module _ {q : Bool} (f : q ≡ all_same labels (pairs_of c)) (claims-forced : q ≡ true) {m u : List ℕ}
          (did : m ≡ take made.count made.cells) (owed : u ≡ take due.count due.cells) where
        pub subterms_unforced : {p : Bool} → p ≡ same_subterms labels (pairs_of m) (pairs_of u) → p ≡ false → false ≡ whole
        unfolding decided_by listed
        subterms_unforced g unforced =
            simp (← demanded, ← wanted, ← labelled, ← e, wants-forced, ← claimed, ← f, claims-forced, ← did, ← owed, ← g, unforced)

        pub all_forced :
            {p o : Bool} → p ≡ same_subterms labels (pairs_of m) (pairs_of u) → p ≡ true
            → o ≡ all_same (labelling (pairs_of w)) (pairs_of d) → o ≡ whole
        unfolding decided_by listed
        all_forced g subterms-forced h =
            simp (← demanded, ← wanted, ← labelled, ← e, wants-forced, ← claimed, ← f, claims-forced, ← did, ← owed, ← g, subterms-forced, ← h)

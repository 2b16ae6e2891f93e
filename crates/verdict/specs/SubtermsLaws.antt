-- Two subterm lists held against each other: they agree where they have one length and each subterm agrees. And the same of two
-- lists of numbers, two a subterm, a subterm of each at a time.
use Rattle.std.specs.Prelude.{ℕ, suc, ◌+◌, ◌≤◌, ◌<◌, ◌≡◌, refl, ◌≢◌, Bool, true, false, ◌&&◌, List, [], ◌∷◌, eqb, length, get_or, drop}
use Rattle.std.proofs.Common.{ap, ◌∙◌, arith}
use Rattle.std.specs.List.{list_all, zip}
use Rattle.std.proofs.Math.Bool.{and_assoc, and-false}
use Rattle.std.proofs.Math.Dec.{leb}
use borrow.Author.Tests.{eq-eqb, ne_eqb, leb-true, leb-false}
use Rattle.classes.specs.Classes.{pairs_of, label_of}
use Rattle.classes.specs.ClassesLaws.{pairs_next, pairs_end}
use Rattle.verdict.specs.Verdict.{agree, same_subterms}

module _ (labels : List ℕ) where
  pub lengths_differ : (made due : List (ℕ × ℕ)) → length made ≢ length due → false ≡ same_subterms labels made due
  unfolding same_subterms
  lengths_differ [] [] apart = absurd (apart refl)
  lengths_differ [] (other ∷ others) apart = refl
  lengths_differ (subterm ∷ subterms) [] apart = refl
  lengths_differ ((step, name) ∷ subterms) ((other_step, other) ∷ others) apart =
      simp (← lengths_differ subterms others (λ e. apart (ap suc e)), and-false)

  pub agree_each :
      (made due : List (ℕ × ℕ)) → length made ≡ length due → list_all (agree labels) (zip made due) ≡ same_subterms labels made due
  unfolding same_subterms
  agree_each [] [] e = refl
  agree_each [] (other ∷ others) e = absurd (omega arith)
  agree_each (subterm ∷ subterms) [] e = absurd (omega arith)
  agree_each ((step, name) ∷ subterms) ((other_step, other) ∷ others) e =
      let steps = eqb step other_step in
      let names = eqb (label_of labels name) (label_of labels other) in
      and_assoc steps names (list_all (agree labels) (zip subterms others))
      ∙ ap (λ (b : Bool). steps && (names && b)) (agree_each subterms others (omega arith))

-- ---- From an even place on

module _ (labels made due : List ℕ) (i : ℕ) where
  -- what is left of the two lists
  abbrev pub same_from : Bool
  same_from = same_subterms labels (pairs_of (drop i made)) (pairs_of (drop i due))

  pub due_ended : i + 1 < length made → length due ≤ i + 1 → same_from ≡ false
  unfolding same_subterms
  due_ended m d = rw (pairs_next made i m, pairs_end due i d)

  pub made-ended : length made ≤ i + 1 → leb (length due) (i + 1) ≡ same_from
  unfolding same_subterms
  made-ended m =
      elim (leb (length due) (i + 1)) as (λ t. leb (length due) (i + 1) ≡ t → t ≡ same_from) [
        | true ↦ λ e. rw (pairs_end made i m, pairs_end due i (leb-true _ _ e))
        | false ↦ λ e. rw (pairs_end made i m, pairs_next due i (leb-false _ _ e))
      ]
      refl

  module _ (m : i + 1 < length made) (d : i + 1 < length due) where
    pub steps_differ : (get_or made i 0 ≡ get_or due i 0 → ⊥) → same_from ≡ false
    unfolding same_subterms
    steps_differ e = rw (pairs_next made i m, pairs_next due i d) (simp (ne_eqb _ _ e))

    module _ (s : get_or made i 0 ≡ get_or due i 0) where
      pub names_differ :
          (label_of labels (get_or made (i + 1) 0) ≡ label_of labels (get_or due (i + 1) 0) → ⊥) → same_from ≡ false
      unfolding same_subterms
      names_differ e = rw (pairs_next made i m, pairs_next due i d) (simp (eq-eqb _ _ s, ne_eqb _ _ e))

      pub both_agree :
          label_of labels (get_or made (i + 1) 0) ≡ label_of labels (get_or due (i + 1) 0)
          → same_from ≡ same_subterms labels (pairs_of (drop (i + 2) made)) (pairs_of (drop (i + 2) due))
      unfolding same_subterms
      both_agree e = rw (pairs_next made i m, pairs_next due i d) (simp (eq-eqb _ _ s, eq-eqb _ _ e))

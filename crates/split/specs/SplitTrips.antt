-- There is one way to cut: the parts put together are the list again, no part holds the mark, and parts that hold no mark
-- are found again once they are put together.
use Rattle.std.specs.Prelude.{ℕ, ◌≡◌, refl, List, [], ◌∷◌, ◌++◌, Bool, true, false, not, ◌&&◌, eqb}
use Rattle.std.proofs.Common.{ap, ap₂, sym, ◌∙◌, eqb-true, eq-eqb}
use Rattle.std.proofs.lemmas.Bool.{not-true}
use Rattle.std.specs.Prelude.{if◌then◌else◌}
use Rattle.notation.specs.ChoiceLaws.{both_true}
use Rattle.split.specs.Split.{split, in_front, joined}
use Rattle.split.specs.SplitLaws.{split-some}

-- the mark does not occur
unfoldable pub free : ℕ → List ℕ → Bool
free mark [] = true
free mark (c ∷ cs) = not (eqb c mark) && free mark cs

unfoldable pub all_free : ℕ → List (List ℕ) → Bool
all_free mark [] = true
all_free mark (part ∷ parts) = free mark part && all_free mark parts

joined-one : (mark : ℕ) (part : List ℕ) → joined mark (part ∷ []) ≡ part
unfolding joined
joined-one mark part = refl

joined_more :
    (mark : ℕ) (part next : List ℕ) (parts : List (List ℕ))
    → joined mark (part ∷ (next ∷ parts)) ≡ part ++ (mark ∷ joined mark (next ∷ parts))
unfolding joined
joined_more mark part next parts = refl

-- a mark in front makes an empty part, and a byte in front one that is longer by it
joined_mark :
    (mark : ℕ) (parts : List (List ℕ)) (part : List ℕ) (rest : List (List ℕ)) → parts ≡ part ∷ rest
    → joined mark ([] ∷ parts) ≡ mark ∷ joined mark parts
joined_mark mark parts part rest e = rw e (joined_more mark [] part rest)

joined_longer :
    (mark c : ℕ) (part : List ℕ) (rest : List (List ℕ))
    → joined mark (in_front c (part ∷ rest)) ≡ c ∷ joined mark (part ∷ rest)
unfolding joined in_front
joined_longer mark c part [] = refl
joined_longer mark c part (next ∷ rest) = refl

joined-in_front :
    (mark c : ℕ) (parts : List (List ℕ)) (part : List ℕ) (rest : List (List ℕ)) → parts ≡ part ∷ rest
    → joined mark (in_front c parts) ≡ c ∷ joined mark parts
joined-in_front mark c parts part rest e = rw e (joined_longer mark c part rest)

-- the parts put together are the list again
pub joined-split : (mark : ℕ) (s : List ℕ) → joined mark (split mark s) ≡ s
unfolding split
joined-split mark [] = joined-one mark []
joined-split mark (c ∷ cs) =
    elim (eqb c mark) as
    (λ t. eqb c mark ≡ t → joined mark (if t then [] ∷ split mark cs else in_front c (split mark cs)) ≡ c ∷ cs) [
      | true ↦ λ e. joined_mark mark (split mark cs) _ _ (split-some mark cs) ∙ ap₂ (λ (x : ℕ) (l : List ℕ). x ∷ l) (sym (eqb-true c mark e)) (joined-split mark cs)
      | false ↦ λ e. joined-in_front mark c (split mark cs) _ _ (split-some mark cs) ∙ ap (λ (l : List ℕ). c ∷ l) (joined-split mark cs)
    ]
    refl

-- ---- No part holds the mark

all_free-in_front : (mark c : ℕ) (parts : List (List ℕ)) → eqb c mark ≡ false → all_free mark parts ≡ true → all_free mark (in_front c parts) ≡ true
unfolding all_free free in_front
all_free-in_front mark c [] e h = simp e
all_free-in_front mark c (part ∷ parts) e h = simp (e, h)

pub all_free-split : (mark : ℕ) (s : List ℕ) → all_free mark (split mark s) ≡ true
unfolding split all_free free
all_free-split mark [] = refl
all_free-split mark (c ∷ cs) =
    elim (eqb c mark) as
    (λ t. eqb c mark ≡ t → all_free mark (if t then [] ∷ split mark cs else in_front c (split mark cs)) ≡ true)
    [ true ↦ λ e. all_free-split mark cs | false ↦ λ e. all_free-in_front mark c (split mark cs) e (all_free-split mark cs) ]
    refl

-- ---- Parts that hold no mark are found again

split_one : (mark : ℕ) (part : List ℕ) → free mark part ≡ true → split mark part ≡ part ∷ []
unfolding split free in_front
split_one mark [] h = refl
split_one mark (c ∷ cs) h =
    let b = both_true (not (eqb c mark)) (free mark cs) h in
    simp (not-true (eqb c mark) b.0, split_one mark cs b.1)

split_front :
    (mark : ℕ) (part rest : List ℕ) → free mark part ≡ true
    → split mark (part ++ (mark ∷ rest)) ≡ part ∷ split mark rest
unfolding split free in_front
split_front mark [] rest h = simp (eq-eqb mark mark refl)
split_front mark (c ∷ cs) rest h =
    let b = both_true (not (eqb c mark)) (free mark cs) h in
    simp (not-true (eqb c mark) b.0, split_front mark cs rest b.1)

pub split-joined :
    (mark : ℕ) (part : List ℕ) (parts : List (List ℕ)) → all_free mark (part ∷ parts) ≡ true
    → split mark (joined mark (part ∷ parts)) ≡ part ∷ parts
unfolding all_free
split-joined mark part [] h =
    let b = both_true (free mark part) true h in
    rw (joined-one mark part) (split_one mark part b.0)
split-joined mark part (next ∷ parts) h =
    let b = both_true (free mark part) (all_free mark (next ∷ parts)) h in
    rw (joined_more mark part next parts)
    (split_front mark part (joined mark (next ∷ parts)) b.0
    ∙ ap (λ (l : List (List ℕ)). part ∷ l) (split-joined mark next parts b.1))

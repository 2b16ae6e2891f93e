-- Laws of parts: how the two functions that cut find them, and that the parts are those of the one way to cut.
use Rattle.std.specs.Prelude.{ℕ, suc, ◌+◌, ◌≤◌, ◌<◌, ◌≡◌, refl, List, [], ◌∷◌, true, false, not, eqb, ltb, length, take, drop, Some, None, position, unwrap_or}
use Rattle.std.specs.List.{position_or_len}
use Rattle.std.proofs.Common.{zero-le, suc-le-suc, ap, add-one, arith, length-drop, drop_of_length-le, ltb-false}
use Rattle.std.specs.Prelude.{if◌then◌else◌}
use Rattle.split.specs.Split.{before, after, split, in_front}

-- ---- The first part and what follows it

pub before_le : (mark : ℕ) (s : List ℕ) → length (before mark s) ≤ length s
unfolding before
before_le mark [] = zero-le
before_le mark (c ∷ cs) =
    elim (eqb c mark) as (λ t. length (if t then [] else c ∷ before mark cs) ≤ suc (length cs))
    [ true ↦ zero-le | false ↦ suc-le-suc (before_le mark cs) ]

before-first : (mark : ℕ) (s : List ℕ) → position_or_len (λ c. eqb c mark) s ≡ length (before mark s)
unfolding before
before-first mark [] = refl
before-first mark (c ∷ cs) =
    elim (eqb c mark) as
    (λ t. (if not t then 1 + position_or_len (λ c. eqb c mark) cs else 0) ≡ length (if t then [] else c ∷ before mark cs))
    [ true ↦ refl | false ↦ omega (arith, before-first mark cs) ]

-- where the first mark stands, or all ends, so many bytes stand before it
pub position-before : (mark : ℕ) (s : List ℕ) → unwrap_or (position (λ c. eqb c mark) s) (length s) ≡ length (before mark s)
position-before mark s =
    let first : ℕ = position_or_len (λ c. eqb c mark) s in
    elim (ltb first (length s)) as (λ t. ltb first (length s) ≡ t → unwrap_or (if t then Some first else None) (length s) ≡ length (before mark s)) [
      | true ↦ λ e. before-first mark s
      | false ↦ λ e. omega (arith, before-first mark s, before_le mark s, ltb-false first (length s) e)
    ]
    refl

-- the part before the first mark is as many bytes of the list as it has
pub take-before : (mark : ℕ) (s : List ℕ) → take (length (before mark s)) s ≡ before mark s
unfolding before
take-before mark [] = refl
take-before mark (c ∷ cs) =
    elim (eqb c mark) as
    (λ t. take (length (if t then [] else c ∷ before mark cs)) (c ∷ cs) ≡ (if t then [] else c ∷ before mark cs))
    [ true ↦ refl | false ↦ ap (λ (l : List ℕ). c ∷ l) (take-before mark cs) ]

passed : (mark : ℕ) (s : List ℕ) → drop (suc (length (before mark s))) s ≡ after mark s
unfolding before after
passed mark [] = refl
passed mark (c ∷ cs) =
    elim (eqb c mark) as
    (λ t. drop (suc (length (if t then [] else c ∷ before mark cs))) (c ∷ cs) ≡ (if t then cs else after mark cs))
    [ true ↦ refl | false ↦ passed mark cs ]

-- what follows the first mark is the list without that part and the mark
pub drop-before : (mark : ℕ) (s : List ℕ) → drop (length (before mark s) + 1) s ≡ after mark s
drop-before mark s = rw (add-one (length (before mark s))) (passed mark s)

-- where a mark was found, the rest is shorter by the part and the mark
pub after-length :
    (mark : ℕ) (s : List ℕ) → length (before mark s) < length s
    → length (after mark s) + length (before mark s) + 1 ≡ length s
after-length mark s h =
    rw (← passed mark s) (omega (arith, length-drop (suc (length (before mark s))) s))

-- what follows a byte is shorter than the whole: a walk from part to part ends
pub drop_shorter : (end : ℕ) (s : List ℕ) → end < length s → length (drop (end + 1) s) < length s
drop_shorter end s h = omega (arith, length-drop (end + 1) s)

-- where no mark was found, nothing follows
pub after_none : (mark : ℕ) (s : List ℕ) → length s ≤ length (before mark s) → after mark s ≡ []
after_none mark s h =
    rw (← passed mark s) (drop_of_length-le s {i = suc (length (before mark s))} (omega arith))

-- ---- All parts

in_front-length : (c : ℕ) (parts : List (List ℕ)) → length (in_front c parts) ≤ suc (length parts)
unfolding in_front
in_front-length c [] = omega arith
in_front-length c (part ∷ parts) = omega arith

first :
    (c : ℕ) (part : List ℕ) (parts : List (List ℕ)) → parts ≡ part ∷ drop 1 parts
    → in_front c parts ≡ (c ∷ part) ∷ drop 1 (in_front c parts)
unfolding in_front
first c part parts e = rw e refl

-- where no mark is left there is one part
pub split-last : (mark : ℕ) (s : List ℕ) → length s ≤ length (before mark s) → split mark s ≡ s ∷ []
unfolding before split in_front
split-last mark [] = λ h. refl
split-last mark (c ∷ cs) =
    elim (eqb c mark) as
    (λ t. suc (length cs) ≤ length (if t then [] else c ∷ before mark cs)
    → (if t then [] ∷ split mark cs else in_front c (split mark cs)) ≡ (c ∷ cs) ∷ [])
    [ true ↦ λ h. absurd (omega arith) | false ↦ λ h. rw (split-last mark cs (omega arith)) ]

-- where one is, the parts are the part before it and the parts of what follows
pub split_more :
    (mark : ℕ) (s : List ℕ) → length (before mark s) < length s
    → split mark s ≡ before mark s ∷ split mark (after mark s)
unfolding before after split in_front
split_more mark [] = λ h. absurd (omega arith)
split_more mark (c ∷ cs) =
    elim (eqb c mark) as
    (λ t. length (if t then [] else c ∷ before mark cs) < suc (length cs)
    → (if t then [] ∷ split mark cs else in_front c (split mark cs))
    ≡ (if t then [] else c ∷ before mark cs) ∷ split mark (if t then cs else after mark cs))
    [ true ↦ λ h. refl | false ↦ λ h. rw (split_more mark cs (omega arith)) ]

-- there is always a first part
pub split-some :
    (mark : ℕ) (s : List ℕ) → split mark s ≡ before mark s ∷ drop 1 (split mark s)
unfolding before split
split-some mark [] = refl
split-some mark (c ∷ cs) =
    elim (eqb c mark) as
    (λ t. (if t then [] ∷ split mark cs else in_front c (split mark cs))
    ≡ (if t then [] else c ∷ before mark cs) ∷ drop 1 (if t then [] ∷ split mark cs else in_front c (split mark cs)))
    [ true ↦ refl | false ↦ first c (before mark cs) (split mark cs) (split-some mark cs) ]

-- there is at most one part more than there are bytes
pub split_le : (mark : ℕ) (s : List ℕ) → length (split mark s) ≤ suc (length s)
unfolding split
split_le mark [] = omega arith
split_le mark (c ∷ cs) =
    elim (eqb c mark) as
    (λ t. length (if t then [] ∷ split mark cs else in_front c (split mark cs)) ≤ suc (suc (length cs))) [
      | true ↦ suc-le-suc (split_le mark cs)
      | false ↦ omega (arith, split_le mark cs, in_front-length c (split mark cs))
    ]

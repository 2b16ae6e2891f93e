-- Laws of words: the comparison is the library's `==` at slices, and it holds exactly of equal lists; and of words of one letter.
use Rattle.std.specs.Prelude.{ℕ, ◌-◌, ◌<◌, ◌≡◌, refl, List, [], ◌∷◌, true, false, ◌&&◌, ◌↔◌, eqb, length, get_or, take, drop}
use Rattle.std.specs.Cmp.Lexicographic.{pointwise}
use Rattle.std.proofs.Common.{ap, ap₂, subst, arith, length-drop, take_all, eq-eqb, ne_eqb, eqb-true}
use Rattle.std.proofs.lemmas.Bool.{false≢true}
use Rattle.notation.specs.ChoiceLaws.{both_true}
use Rattle.words.specs.Words.{same}

same_sound : (a b : List ℕ) → same a b ≡ true → a ≡ b
unfolding same
same_sound [] [] h = refl
same_sound [] (d ∷ ds) h = absurd (false≢true h)
same_sound (c ∷ cs) [] h = absurd (false≢true h)
same_sound (c ∷ cs) (d ∷ ds) h =
    let b = both_true (eqb c d) (same cs ds) h in
    ap₂ (λ (x : ℕ) (l : List ℕ). x ∷ l) (eqb-true c d b.0) (same_sound cs ds b.1)

same_self : (a : List ℕ) → same a a ≡ true
unfolding same
same_self [] = refl
same_self (c ∷ cs) = simp (eq-eqb c c refl, same_self cs)

-- the comparison holds exactly of equal lists
pub same_exactly : (a b : List ℕ) → (same a b ≡ true) ↔ (a ≡ b)
same_exactly a b = (same_sound a b, λ e. subst (λ (x : List ℕ). same a x ≡ true) e (same_self a))

-- lists of two lengths are not the same
pub same_length : (a b : List ℕ) → (length a ≡ length b → ⊥) → same a b ≡ false
same_length a b h =
    elim (same a b) as (λ t. same a b ≡ t → same a b ≡ false)
    [ true ↦ λ e. absurd (h (ap length (same_sound a b e))) | false ↦ λ e. e ]
    refl

-- the library compares pair by pair, too
pub pointwise-same : (a b : List ℕ) → pointwise eqb a b ≡ same a b
unfolding same
pointwise-same [] [] = refl
pointwise-same [] (d ∷ ds) = refl
pointwise-same (c ∷ cs) [] = refl
pointwise-same (c ∷ cs) (d ∷ ds) = ap (λ t. eqb c d && t) (pointwise-same cs ds)

-- ---- Letters

-- a field is the word of one letter exactly if that is its only byte
pub is_letter : (letter : ℕ) (field : List ℕ) → length field ≡ 1 → get_or field 0 0 ≡ letter → same field (letter ∷ []) ≡ true
unfolding same
is_letter letter [] h e = absurd (omega arith)
is_letter letter (c ∷ []) h e = simp (eq-eqb c letter e)
is_letter letter (c ∷ (d ∷ ds)) h e = absurd (omega arith)

pub not_letter : (letter : ℕ) (field : List ℕ) → (length field ≡ 1 → get_or field 0 0 ≡ letter → ⊥) → same field (letter ∷ []) ≡ false
unfolding same
not_letter letter [] other = refl
not_letter letter (c ∷ []) other = simp (ne_eqb c letter (λ e. other refl e))
not_letter letter (c ∷ (d ∷ ds)) other = elim (eqb c letter) as (λ t. (t && false) ≡ false) [ true ↦ refl | false ↦ refl ]

-- and it starts with a letter exactly if that is its first byte
pub starts_with : (letter : ℕ) (field : List ℕ) → 0 < length field → get_or field 0 0 ≡ letter → same (take 1 field) (letter ∷ []) ≡ true
starts_with letter [] h e = absurd (omega arith)
starts_with letter (c ∷ cs) h e = is_letter letter (c ∷ []) refl e

pub starts_not : (letter : ℕ) (field : List ℕ) → (0 < length field → get_or field 0 0 ≡ letter → ⊥) → same (take 1 field) (letter ∷ []) ≡ false
starts_not letter [] other = not_letter letter [] (λ h e. omega arith)
starts_not letter (c ∷ cs) other = not_letter letter (c ∷ []) (λ h e. other (omega arith) e)

-- all that stands behind the first byte
pub behind_first : (field : List ℕ) → take (length field - 1) (drop 1 field) ≡ drop 1 field
behind_first field = take_all (length field - 1) (drop 1 field) (omega (arith, length-drop 1 field))

-- Laws of classes: how long labels are, what a name's label is after a pair, and pairs one at a time.
use Prim.Native.Nat.{ℕ, zero, suc, ◌+◌, ◌≤◌, ◌<◌, min, max}
use Rattle.std.specs.Prelude.{◌≡◌, refl, Bool, true, false, ◌&&◌, List, [], ◌∷◌, ◌++◌, map, ◌⊎◌, eqb, get_or, drop}
use Rattle.std.proofs.Common.{sym, ap, ◌∙◌, inl, inr, add-one, lt-ltb, le-ltb, ltb-true, eq-eqb, ne_eqb}
use Rattle.std.proofs.Math.Bool.{and_assoc, and-false}
use Rattle.std.proofs.Math.Logic.{⊎_elim}
use Rattle.std.proofs.Math.Numerals.{add-two}
use native.Mathlib.Omega.{arith}
use Rattle.std.proofs.Math.ListN.{length, get_or-map, get_or-eq_default, drop_of_length-le}
use Rattle.std.proofs.lemmas.List.{length-map}
use Rattle.std.proofs.Math.Seq.{drop-cons}
use Rattle.std.proofs.lemmas.List.Folds.{list_all-append}
use Rattle.std.specs.Prelude.{if◌then◌else◌}
use Rattle.notation.specs.ChoiceLaws.{both_true}
use Rattle.notation.specs.ListLaws.{length_numbers, get_or_numbers}
use Rattle.classes.specs.Cases.{true_or_false, less_or_not, same_or_not}
use Rattle.classes.specs.Classes.{names, pairs_of, both_names, in_names, label_of, exchanged, joined, labels_after, own_labels, labelling, is_same, all_same}

-- ---- Tests

pub both_names_lem : (x y : ℕ) → both_names x y ≡ true → (x < names) × (y < names)
unfolding both_names
both_names_lem x y h = let b = both_true _ _ h in (ltb-true x names b.0, ltb-true y names b.1)

pub names-both : (x y : ℕ) → x < names → y < names → both_names x y ≡ true
unfolding both_names
names-both x y hx hy = simp (lt-ltb _ _ hx, lt-ltb _ _ hy)

pub first_outside : (x y : ℕ) → names ≤ x → both_names x y ≡ false
unfolding both_names
first_outside x y h = simp (le-ltb _ _ h)

pub second_outside : (x y : ℕ) → names ≤ y → both_names x y ≡ false
unfolding both_names
second_outside x y h = simp (le-ltb _ _ h, and-false)

pub exchanged_same : (old new label : ℕ) → label ≡ old → exchanged old new label ≡ new
unfolding exchanged
exchanged_same old new label e = simp (eq-eqb _ _ e)

pub exchanged-other : (old new label : ℕ) → (label ≡ old → ⊥) → exchanged old new label ≡ label
unfolding exchanged
exchanged-other old new label e = simp (ne_eqb _ _ e)

pub exchanged_new : (old new label : ℕ) → label ≡ new → exchanged old new label ≡ new
unfolding exchanged
exchanged_new old new label e = rw e (elim (eqb new old) as (λ t. (if t then new else new) ≡ new) [ true ↦ refl | false ↦ refl ])

-- a label stays, or it was the old one and is the new one now
abbrev pub Changed : ℕ → ℕ → ℕ → ℕ → Type 0
Changed old new before after = (after ≡ before) ⊎ ((before ≡ old) × (after ≡ new))

exchanged_changed : (old new label : ℕ) → Changed old new label (exchanged old new label)
exchanged_changed old new label =
    ⊎_elim
    (λ same. inr (same, exchanged_same old new label same))
    (λ apart. inl (exchanged-other old new label apart))
    (same_or_not label old)

-- ---- Lists of numbers

-- an entry does not depend on what stands for those past the end
get_or-either : (l : List ℕ) (i d e : ℕ) → i < length l → get_or l i d ≡ get_or l i e
get_or-either [] i d e h = absurd (omega arith)
get_or-either (n ∷ l) zero d e h = refl
get_or-either (n ∷ l) (suc i) d e h = get_or-either l i d e (omega arith)

-- ---- The label of a number

module _ (labels : List ℕ) (x : ℕ) where
  pub label_in : x < length labels → label_of labels x ≡ get_or labels x 0
  unfolding label_of
  label_in h = get_or-either labels x x 0 h

  pub label_out : length labels ≤ x → label_of labels x ≡ x
  unfolding label_of
  label_out h = get_or-eq_default labels x {n = x} h

  pub label-map : (f : ℕ → ℕ) → x < length labels → label_of (map f labels) x ≡ f (label_of labels x)
  unfolding label_of
  label-map f h = get_or-either (map f labels) x x (f x) (rw (length-map labels f) h) ∙ get_or-map f labels x x

-- ---- Each name in a class of its own

pub length-own : length own_labels ≡ names
unfolding own_labels
length-own = length_numbers 0 names

pub own_at : (x : ℕ) → x < names → get_or own_labels x 0 ≡ x
unfolding own_labels
own_at x h = get_or_numbers 0 names x 0 h ∙ omega arith

pub label-own : (x : ℕ) → label_of own_labels x ≡ x
label-own x =
    ⊎_elim
    (λ h. label_in own_labels x (rw length-own h) ∙ own_at x h)
    (λ h. label_out own_labels x (rw length-own h))
    (less_or_not x names)

-- ---- After a pair

module _ (labels : List ℕ) (x y : ℕ) where
  pub joined-none : both_names x y ≡ false → joined labels x y ≡ labels
  unfolding joined
  joined-none e = simp e

  pub joined-both :
      both_names x y ≡ true
      → joined labels x y
      ≡ map (exchanged (max (label_of labels x) (label_of labels y)) (min (label_of labels x) (label_of labels y))) labels
  unfolding joined
  joined-both e = simp e

  pub length-joined : length (joined labels x y) ≡ length labels
  length-joined =
      ⊎_elim
      (λ e. rw (joined-both e) (length-map labels _))
      (λ e. rw (joined-none e))
      (true_or_false (both_names x y))

  pub joined-label :
      both_names x y ≡ true → (z : ℕ) → z < length labels
      → label_of (joined labels x y) z
      ≡ exchanged (max (label_of labels x) (label_of labels y)) (min (label_of labels x) (label_of labels y)) (label_of labels z)
  joined-label e z h = rw (joined-both e) (label-map labels z _ h)

  -- what becomes of any number's label
  changed_both :
      both_names x y ≡ true → (z : ℕ)
      → Changed (max (label_of labels x) (label_of labels y)) (min (label_of labels x) (label_of labels y)) (label_of labels z) (label_of (joined labels x y) z)
  changed_both e z =
      ⊎_elim
      (λ h. rw (joined-label e z h) (exchanged_changed _ _ (label_of labels z)))
      (λ h. inl (label_out (joined labels x y) z (rw length-joined h) ∙ sym (label_out labels z h)))
      (less_or_not z (length labels))

  pub joined_changed :
      (z : ℕ)
      → Changed (max (label_of labels x) (label_of labels y)) (min (label_of labels x) (label_of labels y)) (label_of labels z) (label_of (joined labels x y) z)
  joined_changed z =
      ⊎_elim
      (λ e. changed_both e z)
      (λ e. inl (ap (λ (ls : List ℕ). label_of ls z) (joined-none e)))
      (true_or_false (both_names x y))

pub length-after : (labels : List ℕ) (pairs : List (ℕ × ℕ)) → length (labels_after labels pairs) ≡ length labels
unfolding labels_after
length-after labels [] = refl
length-after labels ((x, y) ∷ pairs) = length-after (joined labels x y) pairs ∙ length-joined labels x y

pub length-labelling : (pairs : List (ℕ × ℕ)) → length (labelling pairs) ≡ names
unfolding labelling
length-labelling pairs = length-after own_labels pairs ∙ length-own

-- ---- Two lists of pairs, one behind the other

pub after_append :
    (labels : List ℕ) (ps qs : List (ℕ × ℕ)) → labels_after labels (ps ++ qs) ≡ labels_after (labels_after labels ps) qs
unfolding labels_after
after_append labels [] qs = refl
after_append labels ((x, y) ∷ ps) qs = after_append (joined labels x y) ps qs

pub labelling_append : (ps qs : List (ℕ × ℕ)) → labelling (ps ++ qs) ≡ labels_after (labelling ps) qs
unfolding labelling
labelling_append ps qs = after_append own_labels ps qs

pub same_append :
    (labels : List ℕ) (ps qs : List (ℕ × ℕ)) → all_same labels (ps ++ qs) ≡ (all_same labels ps && all_same labels qs)
unfolding all_same
same_append labels ps qs = list_all-append (is_same labels) ps qs

pub names_append : (ps qs : List (ℕ × ℕ)) → in_names (ps ++ qs) ≡ (in_names ps && in_names qs)
unfolding in_names
names_append [] qs = refl
names_append ((x, y) ∷ ps) qs =
    ap (λ (b : Bool). both_names x y && b) (names_append ps qs) ∙ sym (and_assoc (both_names x y) (in_names ps) (in_names qs))

-- a flat list whose first part has no lone number
pub pairs_append :
    (n : ℕ) (front back : List ℕ) → length front ≡ n + n → pairs_of (front ++ back) ≡ pairs_of front ++ pairs_of back
unfolding pairs_of
pairs_append n [] back size = refl
pairs_append n (x ∷ []) back size = absurd (omega arith)
pairs_append zero (x ∷ (y ∷ front)) back size = absurd (omega arith)
pairs_append (suc n) (x ∷ (y ∷ front)) back size =
    ap (λ (ps : List (ℕ × ℕ)). (x, y) ∷ ps) (pairs_append n front back (omega arith))

-- ---- Pairs of a list of numbers, one at a time, from entry i on

module _ (numbers : List ℕ) (i : ℕ) where
  pub pairs_next :
      i + 1 < length numbers → pairs_of (drop i numbers) ≡ (get_or numbers i 0, get_or numbers (i + 1) 0) ∷ pairs_of (drop (i + 2) numbers)
  unfolding pairs_of
  pairs_next h =
      let first : i < length numbers = omega arith in
      let second : suc i < length numbers = omega arith in
      rw (add-one i, add-two i, drop-cons numbers i 0 first, drop-cons numbers (suc i) 0 second)

  pub pairs_end : length numbers ≤ i + 1 → pairs_of (drop i numbers) ≡ []
  unfolding pairs_of
  pairs_end h =
      let past : length numbers ≤ suc i = omega arith in
      ⊎_elim
      (λ one. rw (drop-cons numbers i 0 one, drop_of_length-le numbers {i = suc i} past))
      (λ none. rw (drop_of_length-le numbers {i = i} none))
      (less_or_not i (length numbers))

-- the test of all pairs, one at a time
module _ (labels numbers : List ℕ) (i : ℕ) where
  pub same_apart :
      i + 1 < length numbers → (label_of labels (get_or numbers i 0) ≡ label_of labels (get_or numbers (i + 1) 0) → ⊥)
      → all_same labels (pairs_of (drop i numbers)) ≡ false
  unfolding all_same
  same_apart h e = rw (pairs_next numbers i h) (simp (ne_eqb _ _ e))

  pub same_on :
      i + 1 < length numbers → label_of labels (get_or numbers i 0) ≡ label_of labels (get_or numbers (i + 1) 0)
      → all_same labels (pairs_of (drop i numbers)) ≡ all_same labels (pairs_of (drop (i + 2) numbers))
  unfolding all_same
  same_on h e = rw (pairs_next numbers i h) (simp (eq-eqb _ _ e))

  pub same-done : length numbers ≤ i + 1 → all_same labels (pairs_of (drop i numbers)) ≡ true
  unfolding all_same
  same-done h = rw (pairs_end numbers i h)

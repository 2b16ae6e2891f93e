-- Laws of what equalities force: labels decide it.
use Rattle.std.specs.Prelude.{ℕ, ◌≤◌, ◌<◌, min, max, ◌≡◌, refl, true, List, [], ◌∷◌, ◌++◌, ◌↔◌, length}
use Rattle.std.proofs.Common.{sym, ap, ◌∙◌, ⊎_elim, arith, eq-eqb, eqb-true}
use Rattle.std.proofs.Math.Nat.{min-eq_left, min-eq_right, max-eq_left, max-eq_right}
use Rattle.notation.specs.ChoiceLaws.{both_true}
use Rattle.classes.specs.Cases.{true_or_false, less_or_not}
use Rattle.classes.specs.Classes.{names, both_names, in_names, label_of, exchanged, joined, labels_after, own_labels, labelling, all_same}
use Rattle.classes.specs.ClassesLaws.{both_names_lem, exchanged_same, exchanged_new, label-own, joined-none, joined-label, joined_changed, length-joined, length-own}
use Rattle.classes.specs.Forces.{Holds, Forces, AllForced}

-- ---- Pairs that hold

pub holds_append : (ρ : ℕ → ℕ) (ps qs : List (ℕ × ℕ)) → Holds ρ (ps ++ qs) ↔ (Holds ρ ps × Holds ρ qs)
unfolding Holds
holds_append ρ [] qs = (λ h. (tt, h), λ h. h.1)
holds_append ρ ((x, y) ∷ ps) qs =
    let rest = holds_append ρ ps qs in (
      λ h. ((h.0, (rest.0 h.1).0), (rest.0 h.1).1),
      λ h. (h.0.0, rest.1 (h.0.1, h.1)),
    )

-- a choice that tells apart no more than another
pub holds_coarser :
    (σ ρ : ℕ → ℕ) → ((x y : ℕ) → σ x ≡ σ y → ρ x ≡ ρ y) → (pairs : List (ℕ × ℕ)) → Holds σ pairs → Holds ρ pairs
unfolding Holds
holds_coarser σ ρ f [] h = tt
holds_coarser σ ρ f ((x, y) ∷ pairs) h = (f x y h.0, holds_coarser σ ρ f pairs h.1)

-- under a constant choice all pairs hold
pub holds_constant : (n : ℕ) (pairs : List (ℕ × ℕ)) → Holds (λ _. n) pairs
unfolding Holds
holds_constant n [] = tt
holds_constant n ((x, y) ∷ pairs) = (refl, holds_constant n pairs)

-- all pairs have one label each exactly if they hold under the labels
pub all_same_holds : (labels : List ℕ) (pairs : List (ℕ × ℕ)) → all_same labels pairs ≡ true → Holds (label_of labels) pairs
unfolding all_same Holds
all_same_holds labels [] h = tt
all_same_holds labels ((x, y) ∷ pairs) h =
    let b = both_true _ _ h in (eqb-true _ _ b.0, all_same_holds labels pairs b.1)

pub holds_all_same : (labels : List ℕ) (pairs : List (ℕ × ℕ)) → Holds (label_of labels) pairs → all_same labels pairs ≡ true
unfolding all_same Holds
holds_all_same labels [] h = refl
holds_all_same labels ((x, y) ∷ pairs) h = simp (eq-eqb _ _ h.0, holds_all_same labels pairs h.1)

-- ---- The labels make the pairs hold

-- of two labels each becomes the smaller one
first_lowered : (a b : ℕ) → exchanged (max a b) (min a b) a ≡ min a b
first_lowered a b =
    ⊎_elim
    (λ h. exchanged_new (max a b) (min a b) a (omega arith))
    (λ h. exchanged_same (max a b) (min a b) a (omega arith))
    (less_or_not a b)

second_lowered : (a b : ℕ) → exchanged (max a b) (min a b) b ≡ min a b
second_lowered a b =
    ⊎_elim
    (λ h. exchanged_same (max a b) (min a b) b (omega arith))
    (λ h. exchanged_new (max a b) (min a b) b (omega arith))
    (less_or_not a b)

joined_alike :
    (labels : List ℕ) (x y : ℕ) → length labels ≡ names → both_names x y ≡ true
    → label_of (joined labels x y) x ≡ label_of (joined labels x y) y
joined_alike labels x y size e =
    let b = both_names_lem x y e in
    joined-label labels x y e x (omega arith)
    ∙ first_lowered (label_of labels x) (label_of labels y)
    ∙ sym (second_lowered (label_of labels x) (label_of labels y))
    ∙ sym (joined-label labels x y e y (omega arith))

-- names of one label keep one label
joined_keeps :
    (labels : List ℕ) (x y : ℕ) → length labels ≡ names → (u v : ℕ) → u < names → v < names
    → label_of labels u ≡ label_of labels v → label_of (joined labels x y) u ≡ label_of (joined labels x y) v
joined_keeps labels x y size u v hu hv same =
    ⊎_elim
    (λ e. joined-label labels x y e u (omega arith) ∙ ap (exchanged _ _) same ∙ sym (joined-label labels x y e v (omega arith)))
    (λ e. rw (joined-none labels x y e) same)
    (true_or_false (both_names x y))

after_keeps :
    (labels : List ℕ) (pairs : List (ℕ × ℕ)) → length labels ≡ names → (u v : ℕ) → u < names → v < names
    → label_of labels u ≡ label_of labels v → label_of (labels_after labels pairs) u ≡ label_of (labels_after labels pairs) v
unfolding labels_after
after_keeps labels [] size u v hu hv same = same
after_keeps labels ((x, y) ∷ pairs) size u v hu hv same =
    after_keeps (joined labels x y) pairs (length-joined labels x y ∙ size) u v hu hv (joined_keeps labels x y size u v hu hv same)

after_holds :
    (labels : List ℕ) (pairs : List (ℕ × ℕ)) → length labels ≡ names → in_names pairs ≡ true
    → Holds (label_of (labels_after labels pairs)) pairs
unfolding labels_after in_names Holds
after_holds labels [] size e = tt
after_holds labels ((x, y) ∷ pairs) size e =
    let b = both_true _ _ e in
    let h = both_names_lem x y b.0 in
    let size' = length-joined labels x y ∙ size in
    (after_keeps (joined labels x y) pairs size' x y h.0 h.1 (joined_alike labels x y size b.0), after_holds (joined labels x y) pairs size' b.1)

pub labels_hold : (pairs : List (ℕ × ℕ)) → in_names pairs ≡ true → Holds (label_of (labelling pairs)) pairs
unfolding labelling
labels_hold pairs e = after_holds own_labels pairs length-own e

-- ---- Every choice that makes the pairs hold gives a name its label's value

lowered_alike : (ρ : ℕ → ℕ) (a b : ℕ) → ρ a ≡ ρ b → ρ (min a b) ≡ ρ (max a b)
lowered_alike ρ a b same =
    ⊎_elim
    (λ h. (let low : a ≤ b = omega arith in ap ρ (min-eq_left low) ∙ same ∙ sym (ap ρ (max-eq_right low))))
    (λ h. ap ρ (min-eq_right h) ∙ sym same ∙ sym (ap ρ (max-eq_left h)))
    (less_or_not a b)

joined-value :
    (ρ : ℕ → ℕ) (labels : List ℕ) (x y : ℕ) → ((z : ℕ) → ρ (label_of labels z) ≡ ρ z) → ρ x ≡ ρ y
    → (z : ℕ) → ρ (label_of (joined labels x y) z) ≡ ρ z
joined-value ρ labels x y value same z =
    let alike = lowered_alike ρ (label_of labels x) (label_of labels y) (value x ∙ same ∙ sym (value y)) in
    ⊎_elim
    (λ kept. ap ρ kept ∙ value z)
    (λ lowered. ap ρ lowered.1 ∙ alike ∙ sym (ap ρ lowered.0) ∙ value z)
    (joined_changed labels x y z)

after-value :
    (ρ : ℕ → ℕ) (labels : List ℕ) (pairs : List (ℕ × ℕ)) → ((z : ℕ) → ρ (label_of labels z) ≡ ρ z) → Holds ρ pairs
    → (z : ℕ) → ρ (label_of (labels_after labels pairs) z) ≡ ρ z
unfolding labels_after Holds
after-value ρ labels [] value h z = value z
after-value ρ labels ((x, y) ∷ pairs) value h z =
    after-value ρ (joined labels x y) pairs (joined-value ρ labels x y value h.0) h.1 z

pub label-value : (ρ : ℕ → ℕ) (pairs : List (ℕ × ℕ)) → Holds ρ pairs → (x : ℕ) → ρ (label_of (labelling pairs) x) ≡ ρ x
unfolding labelling
label-value ρ pairs h x = after-value ρ own_labels pairs (λ z. ap ρ (label-own z)) h x

pub labels_force :
    (ρ : ℕ → ℕ) (pairs : List (ℕ × ℕ)) → Holds ρ pairs → (x y : ℕ)
    → label_of (labelling pairs) x ≡ label_of (labelling pairs) y → ρ x ≡ ρ y
labels_force ρ pairs h x y same = sym (label-value ρ pairs h x) ∙ ap ρ same ∙ label-value ρ pairs h y

-- ---- Labels decide what is forced

pub same-label_forced :
    (pairs : List (ℕ × ℕ)) (x y : ℕ) → label_of (labelling pairs) x ≡ label_of (labelling pairs) y → Forces pairs x y
same-label_forced pairs x y same ρ h = labels_force ρ pairs h x y same

pub forced_same-label :
    (pairs : List (ℕ × ℕ)) → in_names pairs ≡ true → (x y : ℕ)
    → Forces pairs x y → label_of (labelling pairs) x ≡ label_of (labelling pairs) y
forced_same-label pairs e x y forced = forced (label_of (labelling pairs)) (labels_hold pairs e)

pub forces_labels :
    (pairs : List (ℕ × ℕ)) → in_names pairs ≡ true → (x y : ℕ)
    → Forces pairs x y ↔ (label_of (labelling pairs) x ≡ label_of (labelling pairs) y)
forces_labels pairs e x y = (forced_same-label pairs e x y, same-label_forced pairs x y)

pub all_same_forced :
    (pairs others : List (ℕ × ℕ)) → all_same (labelling pairs) others ≡ true → AllForced pairs others
all_same_forced pairs others same ρ h =
    holds_coarser (label_of (labelling pairs)) ρ (labels_force ρ pairs h) others (all_same_holds (labelling pairs) others same)

pub forced_all_same :
    (pairs others : List (ℕ × ℕ)) → in_names pairs ≡ true → AllForced pairs others → all_same (labelling pairs) others ≡ true
forced_all_same pairs others e forced =
    holds_all_same (labelling pairs) others (forced (label_of (labelling pairs)) (labels_hold pairs e))

pub all_same_exactly :
    (pairs others : List (ℕ × ℕ)) → in_names pairs ≡ true → (all_same (labelling pairs) others ≡ true) ↔ AllForced pairs others
all_same_exactly pairs others e = (all_same_forced pairs others, forced_all_same pairs others e)

-- all are forced where each is
pub forced_first :
    (pairs : List (ℕ × ℕ)) (x y : ℕ) (others : List (ℕ × ℕ))
    → AllForced pairs ((x, y) ∷ others) ↔ (Forces pairs x y × AllForced pairs others)
unfolding Holds
forced_first pairs x y others =
    (λ f. (λ ρ h. (f ρ h).0, λ ρ h. (f ρ h).1), λ f ρ h. (f.0 ρ h, f.1 ρ h))

pub forced_append :
    (pairs ps qs : List (ℕ × ℕ)) → AllForced pairs (ps ++ qs) ↔ (AllForced pairs ps × AllForced pairs qs)
forced_append pairs ps qs = (
  λ f. (λ ρ h. ((holds_append ρ ps qs).0 (f ρ h)).0, λ ρ h. ((holds_append ρ ps qs).0 (f ρ h)).1),
  λ f ρ h. (holds_append ρ ps qs).1 (f.0 ρ h, f.1 ρ h),
)

-- ---- The label is the least name of the class

joined-falls :
    (labels : List ℕ) (x y : ℕ) → ((z : ℕ) → label_of labels z ≤ z) → (z : ℕ) → label_of (joined labels x y) z ≤ z
joined-falls labels x y falls z =
    ⊎_elim (λ kept. omega (arith, falls z)) (λ lowered. omega (arith, falls z)) (joined_changed labels x y z)

after-falls :
    (labels : List ℕ) (pairs : List (ℕ × ℕ)) → ((z : ℕ) → label_of labels z ≤ z)
    → (z : ℕ) → label_of (labels_after labels pairs) z ≤ z
unfolding labels_after
after-falls labels [] falls z = falls z
after-falls labels ((x, y) ∷ pairs) falls z = after-falls (joined labels x y) pairs (joined-falls labels x y falls) z

-- it is not above the name
pub label-below : (pairs : List (ℕ × ℕ)) (x : ℕ) → label_of (labelling pairs) x ≤ x
unfolding labelling
label-below pairs x = after-falls own_labels pairs (λ z. omega (arith, label-own z)) x

-- it is of the class
pub label_forced : (pairs : List (ℕ × ℕ)) (x : ℕ) → Forces pairs (label_of (labelling pairs) x) x
label_forced pairs x ρ h = label-value ρ pairs h x

pub label_of-label :
    (pairs : List (ℕ × ℕ)) → in_names pairs ≡ true → (x : ℕ)
    → label_of (labelling pairs) (label_of (labelling pairs) x) ≡ label_of (labelling pairs) x
label_of-label pairs e x = forced_same-label pairs e (label_of (labelling pairs) x) x (label_forced pairs x)

-- and none of the class is below it
pub label_least :
    (pairs : List (ℕ × ℕ)) → in_names pairs ≡ true → (x y : ℕ) → Forces pairs x y → label_of (labelling pairs) x ≤ y
label_least pairs e x y forced = omega (arith, forced_same-label pairs e x y forced, label-below pairs y)

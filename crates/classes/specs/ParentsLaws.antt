-- Laws of a table of parents: what a step of a walk, a link and a pass over the table do to it.
use Rattle.std.specs.Prelude.{ℕ, zero, suc, ◌≤◌, ◌<◌, min, max, ◌≡◌, refl, false, List, [], ◌∷◌, map, ◌≢◌, length, get_or, set, replicate}
use Rattle.std.proofs.Common.{sym, ap, subst, ◌∙◌, ⊎_elim, arith, length-set, get_or-set_same, get_or-set_other, ext_get_or}
use Rattle.std.proofs.Math.ListN.{length-replicate, get_or-replicate}
use Rattle.std.proofs.lemmas.List.{length-map}
use Rattle.classes.specs.Cases.{less_or_not, same_or_not}
use Rattle.classes.specs.Classes.{names, both_names, label_of, exchanged, joined, labels_after, own_labels}
use Rattle.classes.specs.ClassesLaws.{names-both, exchanged_same, exchanged_new, exchanged-other, label_in, label-own, label-map, length-own, own_at, joined-none, joined-both}
use Rattle.classes.specs.Parents.{Falling, Rooted, Found, Became, Flattened}

-- a fact of every entry of a table, after one was put
set-each :
    (P : ℕ → ℕ → Type 0) (table : List ℕ) (x n : ℕ) → x < length table → P x n
    → ((z : ℕ) → z < names → z ≢ x → P z (get_or table z 0)) → (z : ℕ) → z < names → P z (get_or (set table x n) z 0)
set-each P table x n inside here others z h =
    ⊎_elim
    (λ same. subst (λ (w : ℕ). P w (get_or (set table x n) w 0)) (sym same) (rw (get_or-set_same table x n 0 inside) here))
    (λ apart. rw (get_or-set_other table x z n 0 apart) (others z h apart))
    (same_or_not z x)

-- ---- Another parent

module _ (parents : List ℕ) (falling : Falling parents) (x n : ℕ) (inside : x < names) where
  pub put_falling : n ≤ x → Falling (set parents x n)
  put_falling low =
      record {
        size = length-set parents x n ∙ falling.size;
        below = set-each (λ z p. p ≤ z) parents x n (omega (arith, falling.size)) low (λ z h _. falling.below z h);
      }

  -- one of the same class, and no root where there was none
  put_rooted :
      (labels : List ℕ) → Rooted parents labels → label_of labels n ≡ label_of labels x → (n ≡ x → label_of labels x ≡ x)
      → Rooted (set parents x n) labels
  put_rooted labels rooted same top =
      let fits : x < length parents = omega (arith, falling.size) in
      record {
        size = rooted.size;
        child = set-each (λ z p. label_of labels p ≡ label_of labels z) parents x n fits same (λ z h _. rooted.child z h);
        root = set-each (λ z p. p ≡ z → label_of labels z ≡ z) parents x n fits top (λ z h _. rooted.root z h);
      }

-- the parent's parent for a parent
module _ (parents : List ℕ) (falling : Falling parents) (x parent : ℕ) (inside : x < names) (up : parent ≡ get_or parents x 0) where
  parent_below : parent ≤ x
  parent_below = omega (arith, up, falling.below x inside)

  grand_below : get_or parents parent 0 ≤ parent
  grand_below = falling.below parent (omega (arith, parent_below))

  halved_falling : Falling (set parents x (get_or parents parent 0))
  halved_falling = put_falling parents falling x (get_or parents parent 0) inside (omega (arith, grand_below, parent_below))

  module _ (labels : List ℕ) (rooted : Rooted parents labels) where
    grand_label : label_of labels (get_or parents parent 0) ≡ label_of labels x
    grand_label = rooted.child parent (omega (arith, parent_below)) ∙ ap (label_of labels) up ∙ rooted.child x inside

    halved_rooted : Rooted (set parents x (get_or parents parent 0)) labels
    halved_rooted =
        put_rooted parents falling x (get_or parents parent 0) inside labels rooted grand_label
        (λ same. rooted.root x inside (omega (arith, same, up, grand_below, parent_below)))

-- ---- A walk from x

-- where it stands now: a name with the label of x, and its parent
pub record Walked (before : List ℕ) (x : ℕ) (parents : List ℕ) (name parent : ℕ) : Type 0 where
  pub inside : name < names
  pub up : parent ≡ get_or parents name 0
  pub falling : Falling parents
  pub rooted : (labels : List ℕ) → Rooted before labels → Rooted parents labels
  pub label : (labels : List ℕ) → Rooted before labels → label_of labels name ≡ label_of labels x

pub walked_start : (parents : List ℕ) (x : ℕ) → x < names → Falling parents → Walked parents x parents x (get_or parents x 0)
walked_start parents x inside falling =
    record { inside = inside; up = refl; falling = falling; rooted = λ _ rooted. rooted; label = λ _ _. refl }

module _ (before : List ℕ) (x : ℕ) (parents : List ℕ) (name parent : ℕ) (w : Walked before x parents name parent) where
  pub walked-below : get_or parents parent 0 ≤ parent
  walked-below = grand_below parents w.falling name parent w.inside w.up

  pub walked_next :
      parent < name
      → Walked before x (set parents name (get_or parents parent 0)) (get_or parents parent 0) (get_or (set parents name (get_or parents parent 0)) (get_or parents parent 0) 0)
  walked_next low =
      record {
        inside = omega (arith, walked-below, w.inside);
        up = refl;
        falling = halved_falling parents w.falling name parent w.inside w.up;
        rooted = λ labels start. halved_rooted parents w.falling name parent w.inside w.up labels (w.rooted labels start);
        label = λ labels start. grand_label parents w.falling name parent w.inside w.up labels (w.rooted labels start) ∙ w.label labels start;
      }

  pub walked_end : name ≤ parent → Found before x parents name
  walked_end high =
      let top : get_or parents name 0 ≡ name = omega (arith, w.up, w.falling.below name w.inside) in
      record {
        name = w.inside;
        falling = w.falling;
        rooted = w.rooted;
        found = λ labels start. sym ((w.rooted labels start).root name w.inside top) ∙ w.label labels start;
      }

-- ---- A label is its own label

module _ (parents labels : List ℕ) (falling : Falling parents) (rooted : Rooted parents labels) where
  settled-step :
      (x : ℕ) → x < names → ((z : ℕ) → z < x → label_of labels (label_of labels z) ≡ label_of labels z)
      → label_of labels (label_of labels x) ≡ label_of labels x
  settled-step x inside earlier =
      let up = rooted.child x inside in
      ⊎_elim
      (λ low. ap (label_of labels) (sym up) ∙ earlier (get_or parents x 0) low ∙ up)
      (λ high. ap (label_of labels) (rooted.root x inside (omega (arith, falling.below x inside))))
      (less_or_not (get_or parents x 0) x)

  settled-below : (n x : ℕ) → x < n → x < names → label_of labels (label_of labels x) ≡ label_of labels x
  settled-below zero x bound inside = absurd (omega arith)
  settled-below (suc n) x bound inside = settled-step x inside (λ z low. settled-below n z (omega arith) (omega arith))

  settled : (x : ℕ) → x < names → label_of labels (label_of labels x) ≡ label_of labels x
  settled x inside = settled-below names x inside inside

-- ---- A link

-- the label `high` gets the label `low` for a parent
module _ (parents labels : List ℕ) (falling : Falling parents) (rooted : Rooted parents labels) (high low : ℕ) (inside : high < names) (order : low ≤ high) (top : label_of labels high ≡ high) (bottom : label_of labels low ≡ low) where
  linked_label : (z : ℕ) → z < names → label_of (map (exchanged high low) labels) z ≡ exchanged high low (label_of labels z)
  linked_label z h = label-map labels z (exchanged high low) (omega (arith, rooted.size))

  linked_high : label_of (map (exchanged high low) labels) high ≡ low
  linked_high = linked_label high inside ∙ exchanged_same high low (label_of labels high) top

  linked_low : label_of (map (exchanged high low) labels) low ≡ low
  linked_low = linked_label low (omega arith) ∙ exchanged_new high low (label_of labels low) bottom

  linked_other : (z : ℕ) → z < names → z ≢ high → label_of labels z ≡ z → label_of (map (exchanged high low) labels) z ≡ z
  linked_other z h apart own =
      linked_label z h ∙ exchanged-other high low (label_of labels z) (λ e. apart (sym own ∙ e)) ∙ own

  linked_rooted : Rooted (set parents high low) (map (exchanged high low) labels)
  linked_rooted =
      let fits : high < length parents = omega (arith, falling.size) in
      let after = map (exchanged high low) labels in
      record {
        size = length-map labels (exchanged high low) ∙ rooted.size;
        child =
            set-each (λ z p. label_of after p ≡ label_of after z) parents high low fits (linked_low ∙ sym linked_high)
            (λ z h _. linked_label (get_or parents z 0) (omega (arith, falling.below z h)) ∙ ap (exchanged high low) (rooted.child z h) ∙ sym (linked_label z h));
        root =
            set-each (λ z p. p ≡ z → label_of after z ≡ z) parents high low fits (λ same. linked_high ∙ same)
            (λ z h apart own. linked_other z h apart (rooted.root z h own));
      }

-- the labels a and b of x and y, whichever is the larger
module _ (parents labels : List ℕ) (falling : Falling parents) (rooted : Rooted parents labels) (x y a b : ℕ) (hx : x < names) (hy : y < names) (ha : a < names) (hb : b < names) (ea : a ≡ label_of labels x) (eb : b ≡ label_of labels y) where
  first-settled : label_of labels a ≡ a
  first-settled = ap (label_of labels) ea ∙ settled parents labels falling rooted x hx ∙ sym ea

  second-settled : label_of labels b ≡ b
  second-settled = ap (label_of labels) eb ∙ settled parents labels falling rooted y hy ∙ sym eb

  linked_joined : (high low : ℕ) → high ≡ max a b → low ≡ min a b → map (exchanged high low) labels ≡ joined labels x y
  linked_joined high low top bottom = rw (joined-both labels x y (names-both x y hx hy), ← ea, ← eb, ← top, ← bottom)

  second_linked : a ≤ b → Rooted (set parents b a) (joined labels x y)
  second_linked order =
      rw (← linked_joined b a (omega arith) (omega arith))
      (linked_rooted parents labels falling rooted b a hb order second-settled first-settled)

  first_linked : b ≤ a → Rooted (set parents a b) (joined labels x y)
  first_linked order =
      rw (← linked_joined a b (omega arith) (omega arith))
      (linked_rooted parents labels falling rooted a b ha order first-settled second-settled)

-- both labels found, then the link: from what the two walks found, with nothing asked of the tables before the last
module _ (before between after : List ℕ) (x y a b : ℕ) (hx : x < names) (hy : y < names) (ha : a < names) (hb : b < names) (falling : Falling after) (first_rooted : (labels : List ℕ) → Rooted before labels → Rooted between labels) (first_found : (labels : List ℕ) → Rooted before labels → a ≡ label_of labels x) (second_rooted : (labels : List ℕ) → Rooted between labels → Rooted after labels) (second_found : (labels : List ℕ) → Rooted between labels → b ≡ label_of labels y) where
  pub second-joined_rooted : a ≤ b → (labels : List ℕ) → Rooted before labels → Rooted (set after b a) (joined labels x y)
  second-joined_rooted order labels rooted =
      let kept = first_rooted labels rooted in
      second_linked after labels falling (second_rooted labels kept) x y a b hx hy ha hb (first_found labels rooted) (second_found labels kept) order

  pub first-joined_rooted : b ≤ a → (labels : List ℕ) → Rooted before labels → Rooted (set after a b) (joined labels x y)
  first-joined_rooted order labels rooted =
      let kept = first_rooted labels rooted in
      first_linked after labels falling (second_rooted labels kept) x y a b hx hy ha hb (first_found labels rooted) (second_found labels kept) order

-- both labels found, then the link
module _ (before between after : List ℕ) (x y a b : ℕ) (hx : x < names) (hy : y < names) (first : Found before x between a) (second : Found between y after b) where
  pub second-joined : a ≤ b → Became (λ labels. joined labels x y) before (set after b a)
  second-joined order =
      record {
        falling = put_falling after second.falling b a second.name order;
        rooted = second-joined_rooted before between after x y a b hx hy first.name second.name second.falling first.rooted first.found second.rooted second.found order;
      }

  pub first-joined : b ≤ a → Became (λ labels. joined labels x y) before (set after a b)
  first-joined order =
      record {
        falling = put_falling after second.falling a b first.name order;
        rooted = first-joined_rooted before between after x y a b hx hy first.name second.name second.falling first.rooted first.found second.rooted second.found order;
      }

-- a pair with a number that is no name
pub unlinked_rooted :
    (parents labels : List ℕ) (x y : ℕ) → both_names x y ≡ false → Rooted parents labels → Rooted parents (joined labels x y)
unlinked_rooted parents labels x y e rooted = rw (joined-none labels x y e) rooted

pub unlinked :
    (parents : List ℕ) → Falling parents → (x y : ℕ) → both_names x y ≡ false → Became (λ labels. joined labels x y) parents parents
unlinked parents falling x y e =
    record { falling = falling; rooted = λ labels rooted. unlinked_rooted parents labels x y e rooted }

-- ---- Pair after pair

-- labels now, from which the pairs that are left lead to the labels in the end
pub record Toward (end : List ℕ) (left : List (ℕ × ℕ)) (parents : List ℕ) : Type 0 where
  pub labels : List ℕ
  pub rooted : Rooted parents labels
  pub leads : labels_after labels left ≡ end

pub toward_start :
    (labels parents : List ℕ) (pairs : List (ℕ × ℕ)) → Rooted parents labels → Toward (labels_after labels pairs) pairs parents
toward_start labels parents pairs rooted = record { labels = labels; rooted = rooted; leads = refl }

pub toward_rooted :
    (end : List ℕ) (x y : ℕ) (left : List (ℕ × ℕ)) (before after : List ℕ) → Toward end ((x, y) ∷ left) before
    → ((labels : List ℕ) → Rooted before labels → Rooted after (joined labels x y)) → Toward end left after
unfolding labels_after
toward_rooted end x y left before after toward became =
    record { labels = joined toward.labels x y; rooted = became toward.labels toward.rooted; leads = toward.leads }

pub toward_next :
    (end : List ℕ) (x y : ℕ) (left : List (ℕ × ℕ)) (before after : List ℕ) → Toward end ((x, y) ∷ left) before
    → Became (λ labels. joined labels x y) before after → Toward end left after
toward_next end x y left before after toward became = toward_rooted end x y left before after toward became.rooted

pub toward_end : (end parents : List ℕ) → Toward end [] parents → Rooted parents end
unfolding labels_after
toward_end end parents toward = rw (← toward.leads) toward.rooted

-- ---- The pass that puts each label in its place

module _ (parents labels : List ℕ) (falling : Falling parents) (rooted : Rooted parents labels) (x : ℕ) (inside : x < names) (flat : (z : ℕ) → z < x → get_or parents z 0 ≡ label_of labels z) where
  flat_here : get_or parents (get_or parents x 0) 0 ≡ label_of labels x
  flat_here =
      ⊎_elim
      (λ low. flat (get_or parents x 0) low ∙ rooted.child x inside)
      (λ high. (let top : get_or parents x 0 ≡ x = omega (arith, falling.below x inside) in ap (λ (z : ℕ). get_or parents z 0) top ∙ top ∙ sym (rooted.root x inside top)))
      (less_or_not (get_or parents x 0) x)

  flat_on : (z : ℕ) → z < suc x → get_or (set parents x (get_or parents (get_or parents x 0) 0)) z 0 ≡ label_of labels z
  flat_on z h =
      set-each (λ w p. w < suc x → p ≡ label_of labels w) parents x (get_or parents (get_or parents x 0) 0) (omega (arith, falling.size)) (λ _. flat_here) (λ w _ apart low. flat w (omega arith)) z (omega arith) h

-- how far it has come: the names below x have their labels for parents
pub record Passed (before parents : List ℕ) (x : ℕ) : Type 0 where
  pub falling : Falling parents
  pub rooted : (labels : List ℕ) → Rooted before labels → Rooted parents labels
  pub flat : (labels : List ℕ) → Rooted before labels → (z : ℕ) → z < x → get_or parents z 0 ≡ label_of labels z

pub passed_start : (parents : List ℕ) → Falling parents → Passed parents parents 0
passed_start parents falling = record { falling = falling; rooted = λ _ rooted. rooted; flat = λ _ _ z low. absurd (omega arith) }

module _ (before parents : List ℕ) (x : ℕ) (p : Passed before parents x) where
  pub passed_next : x < names → Passed before (set parents x (get_or parents (get_or parents x 0) 0)) (suc x)
  passed_next inside =
      record {
        falling = halved_falling parents p.falling x (get_or parents x 0) inside refl;
        rooted = λ labels start. halved_rooted parents p.falling x (get_or parents x 0) inside refl labels (p.rooted labels start);
        flat = λ labels start. flat_on parents labels p.falling (p.rooted labels start) x inside (p.flat labels start);
      }

  pub passed_end : names ≤ x → Flattened before parents
  passed_end past labels start =
      let long = p.falling.size in
      let size = (p.rooted labels start).size in
      ext_get_or 0 parents labels (long ∙ sym size) (λ z h. p.flat labels start z (omega arith) ∙ label_in labels z (omega arith))

-- ---- Each name in a class of its own

pub own-next :
    (table : List ℕ) (x : ℕ) → length table ≡ names → x < names → ((z : ℕ) → z < x → get_or table z 0 ≡ z)
    → (z : ℕ) → z < suc x → get_or (set table x x) z 0 ≡ z
own-next table x size inside own z h =
    set-each (λ w n. w < suc x → n ≡ w) table x x (omega arith) (λ _. refl) (λ w _ apart low. own w (omega arith)) z (omega arith) h

pub own-end : (table : List ℕ) (x : ℕ) → length table ≡ names → names ≤ x → ((z : ℕ) → z < x → get_or table z 0 ≡ z) → table ≡ own_labels
own-end table x size past own = ext_get_or 0 table own_labels (size ∙ sym length-own) (λ z h. own z (omega arith) ∙ sym (own_at z (omega arith)))

pub own_falling : Falling own_labels
own_falling = record { size = length-own; below = λ x h. omega (arith, own_at x h) }

pub own_rooted : Rooted own_labels own_labels
own_rooted =
    record { size = length-own; child = λ x h. ap (label_of own_labels) (own_at x h); root = λ x h _. label-own x }

-- ---- Room for labels

pub room_falling : Falling (replicate names 0)
room_falling =
    record {
      size = length-replicate {A = ℕ} names 0;
      below = λ x h. omega (arith, get_or-replicate {A = ℕ} names x 0 0 h);
    }

-- Laws of pairs in a table: what is listed after one more, and whether all its numbers have labels.
use Rattle.std.specs.Prelude.{ℕ, suc, ◌+◌, ◌*◌, ◌≤◌, ◌<◌, ◌≡◌, refl, true, List, [], ◌∷◌, ◌++◌, map, take, set, replicate}
use Rattle.std.proofs.Common.{sym, ◌∙◌, append_assoc, add-one, length-append, length-set, length-take-le, take-suc-set, lt-ltb}
use Rattle.std.proofs.Math.Path.{ap}
use Rattle.std.proofs.Math.Numerals.{add-two}
use native.Mathlib.Omega.{arith}
use Rattle.std.proofs.Math.ListN.{length}
use Rattle.std.proofs.lemmas.List.{length-replicate}
use Rattle.classes.specs.Classes.{pairs_of, in_names}
use Rattle.classes.specs.ClassesLaws.{names-both, names_append}
use Rattle.symbolic.specs.Names.{no_name, pair_cells}
use Rattle.symbolic.specs.declared.Pairs.{Pairs}
use Rattle.symbolic.specs.Symbolic.{pairs, pushed, listed, no_pairs}

-- ---- Lists

pub map-append : {A B : Type 0} (f : A → B) (xs ys : List A) → map f (xs ++ ys) ≡ map f xs ++ map f ys
map-append f [] ys = refl
map-append {B = B} f (x ∷ xs) ys = ap (λ (l : List B). f x ∷ l) (map-append f xs ys)

-- a list and one more, each with what stands for it
pub snoc_map :
    {A B : Type 0} (f : A → B) (xs : List A) (x : A) (ys : List B) (y : B) → ys ≡ map f xs → y ≡ f x
    → ys ++ y ∷ [] ≡ map f (xs ++ x ∷ [])
snoc_map {B = B} f xs x ys y e g =
    ap (λ (l : List B). l ++ y ∷ []) e ∙ ap (λ (z : B). map f xs ++ z ∷ []) g ∙ sym (map-append f xs (x ∷ []))

-- ---- Pairs of a list of even length

pairs_snoc :
    (l : List ℕ) (a b : ℕ) → length l ≡ 2 * length (pairs_of l) → pairs_of (l ++ a ∷ b ∷ []) ≡ pairs_of l ++ (a, b) ∷ []
unfolding pairs_of
pairs_snoc [] a b e = refl
pairs_snoc (x ∷ []) a b e = absurd (omega arith)
pairs_snoc (x ∷ (y ∷ l)) a b e = ap (λ (ps : List (ℕ × ℕ)). (x, y) ∷ ps) (pairs_snoc l a b (omega arith))

names_snoc :
    (l : List (ℕ × ℕ)) (a b : ℕ) → in_names l ≡ true → a < no_name → b < no_name → in_names (l ++ (a, b) ∷ []) ≡ true
unfolding in_names
names_snoc l a b h ha hb = simp (names_append l ((a, b) ∷ []), h, names-both a b ha hb)

-- ---- A table

-- a table of pairs as it is used: its cells are all there, two of them count for each pair, and the pairs are at most so many
pub record Table (most : ℕ) (p : Pairs) : Type 0 where
  pub size : length p.cells ≡ pair_cells
  pub count : p.count ≡ 2 * length (listed p)
  pub few : length (listed p) ≤ most

pub table_more : {most : ℕ} {p : Pairs} (more : ℕ) → most ≤ more → Table most p → Table more p
table_more more h t = record { size = t.size; count = t.count; few = omega arith }

pub table_exact : {most : ℕ} {p : Pairs} → Table most p → Table (length (listed p)) p
table_exact t = record { size = t.size; count = t.count; few = omega arith }

-- with no pair that counts
pub table_none : (cells : List ℕ) → length cells ≡ pair_cells → Table 0 (pairs cells 0)
unfolding listed pairs_of
table_none cells h = record { size = h; count = refl; few = omega arith }

pub table-fresh : Table 0 no_pairs
table-fresh = table_none (replicate pair_cells 0) (length-replicate {A = ℕ} pair_cells 0)

taken-pushed :
    (cells : List ℕ) (n a b : ℕ) → n + 1 < length cells
    → take (n + 2) (set (set cells n a) (n + 1) b) ≡ take n cells ++ a ∷ b ∷ []
taken-pushed cells n a b h =
    let first : n < length cells = omega arith in
    let second : suc n < length (set cells n a) = omega (arith, length-set cells n a) in
    rw (add-one n, add-two n)
    (take-suc-set (set cells n a) (suc n) b second
    ∙ ap (λ (l : List ℕ). l ++ b ∷ []) (take-suc-set cells n a first)
    ∙ append_assoc (take n cells) (a ∷ []) (b ∷ []))

module _ (most : ℕ) (p : Pairs) (a b : ℕ) (t : Table most p) (room : 2 * most + 2 ≤ pair_cells) where
  pushed_as : pushed p a b ≡ pairs (set (set p.cells p.count a) (p.count + 1) b) (p.count + 2)
  unfolding pushed
  pushed_as =
      let h : p.count + 1 < pair_cells = omega (arith, t.count, t.few) in
      simp (lt-ltb _ _ h)

  pub listed-pushed : listed (pushed p a b) ≡ listed p ++ (a, b) ∷ []
  unfolding listed
  listed-pushed =
      let fits : p.count + 1 < length p.cells = omega (arith, t.count, t.few, t.size) in
      let whole : p.count ≤ length p.cells = omega arith in
      ap listed pushed_as
      ∙ ap pairs_of (taken-pushed p.cells p.count a b fits)
      ∙ pairs_snoc (take p.count p.cells) a b (length-take-le p.count p.cells whole ∙ t.count)

  longer : length (listed (pushed p a b)) ≡ length (listed p) + 1
  longer = ap length listed-pushed ∙ length-append (listed p) ((a, b) ∷ [])

  pub table-pushed : Table (suc most) (pushed p a b)
  table-pushed =
      record {
        size =
            ap (λ (q : Pairs). length q.cells) pushed_as
            ∙ length-set (set p.cells p.count a) (p.count + 1) b
            ∙ length-set p.cells p.count a
            ∙ t.size;
        count = ap (λ (q : Pairs). q.count) pushed_as ∙ omega (arith, longer, t.count);
        few = omega (arith, longer, t.few);
      }

  pub labelled_pushed : a < no_name → b < no_name → in_names (listed p) ≡ true → in_names (listed (pushed p a b)) ≡ true
  labelled_pushed ha hb h = rw listed-pushed (names_snoc (listed p) a b h ha hb)

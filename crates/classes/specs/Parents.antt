-- Classes kept as a table of parents: a name's parent is in its class and not above it, and the walk from parent to parent ends
-- at the label.
use Rattle.std.specs.Prelude.{ℕ, ◌≤◌, ◌<◌, ◌≡◌, List, length, get_or}
use Rattle.classes.specs.Classes.{names, label_of}

-- no parent is above its child
pub record Falling (parents : List ℕ) : Type 0 where
  pub size : length parents ≡ names
  pub below : (x : ℕ) → x < names → get_or parents x 0 ≤ x

-- a name has its parent's label, and one that is its own parent is its own label
pub record Rooted (parents labels : List ℕ) : Type 0 where
  pub size : length labels ≡ names
  pub child : (x : ℕ) → x < names → label_of labels (get_or parents x 0) ≡ label_of labels x
  pub root : (x : ℕ) → x < names → get_or parents x 0 ≡ x → label_of labels x ≡ x

-- a walk from x found r, a name: whatever the labels were, they stayed, and r is that of x
pub record Found (before : List ℕ) (x : ℕ) (after : List ℕ) (r : ℕ) : Type 0 where
  pub name : r < names
  pub falling : Falling after
  pub rooted : (labels : List ℕ) → Rooted before labels → Rooted after labels
  pub found : (labels : List ℕ) → Rooted before labels → r ≡ label_of labels x

-- whatever the labels were, they are now those after a step
pub record Became (step : List ℕ → List ℕ) (before after : List ℕ) : Type 0 where
  pub falling : Falling after
  pub rooted : (labels : List ℕ) → Rooted before labels → Rooted after (step labels)

-- whatever the labels were, the table is now those
abbrev pub Flattened : List ℕ → List ℕ → Type 0
Flattened before after = (labels : List ℕ) → Rooted before labels → after ≡ labels

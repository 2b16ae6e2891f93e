-- Laws of the queue, an entry at a time.
use Rattle.std.specs.Prelude.{Some, None, ℕ, suc, ◌+◌, ◌-◌, ◌≤◌, ◌<◌, ◌≡◌, refl, List, [], ◌∷◌}
use Rattle.std.proofs.Common.{ap, sym, ◌∙◌, arith, add-one}
use borrow.Author.Tests.{le-leb, lt-leb}
use Rattle.perm_free_list.specs.declared.FreedSlot.{FreedSlot}
use Rattle.perm_free_list.specs.PermFreeList.{entry_at, free_slot, entries, none, gives, looked}

-- the queue from entry i on is that entry and the queue behind it
pub entries_more :
    (list : List ℕ) (first i count : ℕ) (entry : FreedSlot) → entry ≡ entry_at list first i → i < count
    → entries list first i (count - i) ≡ entry ∷ entries list first (i + 1) (count - (i + 1))
unfolding entries
entries_more list first i count entry here h =
    let e : count - i ≡ suc (count - (i + 1)) = omega arith in
    ap (entries list first i) e
    ∙ ap (λ (n : ℕ). entry_at list first i ∷ entries list first n (count - (i + 1))) (sym (add-one i))
    ∙ ap (λ (x : FreedSlot). x ∷ entries list first (i + 1) (count - (i + 1))) (sym here)

-- nothing is left
pub entries_none :
    (list : List ℕ) (first i count : ℕ) → count ≤ i → entries list first i (count - i) ≡ []
unfolding entries
entries_none list first i count h =
    let e : count - i ≡ 0 = omega arith in
    ap (entries list first i) e

module _ (records : List ℕ) (chunk i : ℕ) (entry : FreedSlot) (rest : List FreedSlot) where
  -- the front is too late
  pub looked_late : chunk ≤ entry.chunk → looked records chunk i (entry ∷ rest) ≡ none i
  unfolding looked
  looked_late l = simp (le-leb _ _ l)

  -- the front's slot is taken
  pub looked-taken :
      entry.chunk < chunk → (slot : ℕ) → free_slot records entry.variable ≡ Some slot
      → looked records chunk i (entry ∷ rest) ≡ gives (i + 1) slot entry.variable
  unfolding looked
  looked-taken l slot e = simp (lt-leb _ _ l, e)

  -- the front is dropped
  pub looked_dropped :
      entry.chunk < chunk → free_slot records entry.variable ≡ None
      → looked records chunk i (entry ∷ rest) ≡ looked records chunk (i + 1) rest
  unfolding looked
  looked_dropped l e = simp (lt-leb _ _ l, e)

pub looked-none : (records : List ℕ) (chunk i : ℕ) → looked records chunk i [] ≡ none i
unfolding looked
looked-none records chunk i = refl

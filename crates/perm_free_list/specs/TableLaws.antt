-- Laws of the queue's table: what stands in it after an entry was put there.
use Prim.Native.Nat.{ℕ, zero, suc, ◌+◌, ◌*◌, ◌%◌, ◌<◌}
use Rattle.std.specs.Prelude.{◌≡◌, ◌≢◌, List, [], ◌∷◌, ◌++◌, length, replicate}
use Rattle.std.proofs.Common.{ap, add-one}
use native.Mathlib.Omega.{arith}
use Rattle.notation.specs.ListLaws.{cells_put-same, cells_put-other, length-put}
use Rattle.sizes.specs.Sizes.{freed_slots}
use Rattle.perm_free_list.specs.declared.FreedSlot.{FreedSlot}
use Rattle.perm_free_list.specs.PermFreeList.{entry_cells, entry_start, entry_at, entry_put, entries}

-- the numbers of an entry: a table of that entry alone
abbrev numbers_of : FreedSlot → List ℕ
numbers_of = entry_put (replicate entry_cells 0) 0 0

abbrev entry_from : List ℕ → FreedSlot
entry_from numbers = entry_at numbers 0 0

module _ (list : List ℕ) (first i : ℕ) (entry : FreedSlot) where
  pub entry_put-same : length list ≡ freed_slots * entry_cells → entry_at (entry_put list first i entry) first i ≡ entry
  entry_put-same size = ap entry_from (cells_put-same list (entry_start first i) 0 (numbers_of entry) (omega arith))

  pub entry_put-other :
      (j : ℕ) → i < freed_slots → j < freed_slots → i ≢ j → entry_at (entry_put list first i entry) first j ≡ entry_at list first j
  entry_put-other j hi hj differ =
      let apart : (first % freed_slots + i % freed_slots) % freed_slots ≢ (first % freed_slots + j % freed_slots) % freed_slots = omega arith in
      ap entry_from (cells_put-other entry_cells _ _ apart list (numbers_of entry) (omega arith) 0 entry_cells (omega arith))

  pub entry_put-length : length (entry_put list first i entry) ≡ length list
  entry_put-length = length-put list (entry_start first i) 0 (numbers_of entry)

module _ (list : List ℕ) (first count : ℕ) (entry : FreedSlot) (size : length list ≡ freed_slots * entry_cells) (h : count < freed_slots) where
  -- the same from entry i on
  pushed :
      (i n : ℕ) → i + n ≡ count
      → entries (entry_put list first count entry) first i (suc n) ≡ entries list first i n ++ (entry ∷ [])
  unfolding entries
  pushed i zero e =
      let last : i ≡ count = omega arith in
      rw (last, entry_put-same list first count entry size)
  pushed i (suc n) e =
      let kept = entry_put-other list first count entry i h (omega arith) (omega arith) in
      let rest = pushed (suc i) n (omega arith) in
      λ x. kept x ∷ rest x

  -- an entry put behind the last one
  pub entries-push : entries (entry_put list first count entry) first 0 (count + 1) ≡ entries list first 0 count ++ (entry ∷ [])
  entries-push = rw (add-one count) (pushed 0 count (omega arith))

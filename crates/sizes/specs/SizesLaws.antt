-- The size tests as plain facts.
use Rattle.std.specs.Prelude.{ℕ, ◌≤◌, ◌≡◌, true, ◌↔◌}
use Rattle.std.proofs.Common.{le-leb, leb-true}
use Rattle.notation.specs.ChoiceLaws.{both_true}
use Rattle.sizes.specs.Sizes.{registers, chunks, counts, is_register, is_argument, is_chunk, is_count}

pub register_exactly : (n : ℕ) → (is_register n ≡ true) ↔ ((1 ≤ n) × (n ≤ registers))
register_exactly n = (
  λ h. let b = both_true _ _ h in (leb-true 1 n b.0, leb-true n registers b.1),
  λ h. simp (le-leb _ _ h.0, le-leb _ _ h.1),
)

pub argument_exactly : (n : ℕ) → (is_argument n ≡ true) ↔ (n ≤ registers)
argument_exactly n = (leb-true n registers, le-leb n registers)

pub chunk_exactly : (n : ℕ) → (is_chunk n ≡ true) ↔ (n ≤ chunks)
chunk_exactly n = (leb-true n chunks, le-leb n chunks)

pub count_exactly : (n : ℕ) → (is_count n ≡ true) ↔ (n ≤ counts)
count_exactly n = (leb-true n counts, le-leb n counts)

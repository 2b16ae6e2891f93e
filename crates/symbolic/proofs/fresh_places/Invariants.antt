-- `symbolic::fresh_places`: the places passed hold their own names. Assumes nothing.
use Rattle.std.proofs.Common.{◌≡◌, ℕ, ◌<◌, length, get_or}
use Rattle.symbolic.specs.Names.{place_cells}
use Rattle.symbolic.proofs.fresh_places.Given as goal

abbrev pub invariant-loop-name : goal.invariant-loop-name
invariant-loop-name l = (length l.place-items ≡ place_cells) × ((k : ℕ) → k < l.name → get_or l.place-items k 0 ≡ k)

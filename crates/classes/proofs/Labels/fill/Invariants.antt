-- `classes::Labels::fill`: the names passed have themselves for a parent. Assumes nothing.
use Rattle.std.proofs.Common.{◌≡◌, ℕ, ◌<◌, length, get_or}
use Rattle.classes.specs.Classes.{names}
use Rattle.classes.proofs.Labels.fill.Given as goal

abbrev pub invariant-loop-name : goal.invariant-loop-name
invariant-loop-name l = (length l.parent-items ≡ names) × ((z : ℕ) → z < l.name → get_or l.parent-items z 0 ≡ z)

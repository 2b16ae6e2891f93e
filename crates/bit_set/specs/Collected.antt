-- A set given by a test: its members are the numbers 0..63 that pass.
use Rattle.std.specs.Prelude.{ℕ, zero, suc, Bool, not, ◌&&◌}
use Rattle.std.specs.Prelude.{if◌then◌else◌}
use Rattle.bit_set.specs.BitSet.{members, has, empty_set, inserted}

-- the numbers below n that pass
unfoldable pub collected_below : (ℕ → Bool) → ℕ → ℕ
collected_below test zero = empty_set
collected_below test (suc n) = if test n then inserted (collected_below test n) n else collected_below test n

unfoldable pub collected : (ℕ → Bool) → ℕ
collected test = collected_below test members

-- the members of s that are none of t
unfoldable pub less : ℕ → ℕ → ℕ
less s t = collected (λ q. has s q && not (has t q))

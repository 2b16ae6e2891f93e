-- The numbers between two, and the first number that is clear: what a search in a set is made of.
use Rattle.std.specs.Prelude.{ℕ, zero, suc, ◌-◌, Bool, not, ◌&&◌, leb, ltb}
use Rattle.std.specs.Prelude.{if◌then◌else◌}
use Rattle.bit_set.specs.BitSet.{members, has}
use Rattle.bit_set.specs.Collected.{collected}

unfoldable pub numbers_below : ℕ → ℕ
numbers_below n = collected (λ q. ltb q n)

-- from the first to the last, both included
unfoldable pub numbers_between : ℕ → ℕ → ℕ
numbers_between first last = collected (λ q. leb first q && leb q last)

abbrev pub is_clear : ℕ → ℕ → Bool
is_clear s n = not (has s n)

-- the first of so many numbers from n on that is clear, or else the number behind them
unfoldable pub first_clear_of : ℕ → ℕ → ℕ → ℕ
first_clear_of zero s n = n
first_clear_of (suc more) s n = if is_clear s n then n else first_clear_of more s (suc n)

-- the first number from n on that is clear: past the last member, n itself
unfoldable pub first_clear : ℕ → ℕ → ℕ
first_clear s n = first_clear_of (members - n) s n

-- A set of numbers 0..63 is a 64-bit word: n is a member if the word's binary digit n is 1.
use Rattle.std.specs.Prelude.{ℕ, ◌+◌, ◌-◌, ◌/◌, ◌%◌, ◌^◌, ◌<◌, Bool, eqb, leb}
use Rattle.std.specs.Int.Bits.{bit_and, bit_or}
use Rattle.std.specs.Prelude.{if◌then◌else◌}

-- the last number that can be a member, and the bits of the word: one for each number from 0 to it
abbrev pub last_member : ℕ
last_member = 63

abbrev pub members : ℕ
members = last_member + 1

-- what is a set: a word of so many bits
abbrev pub Set : ℕ → Type 0
Set s = s < 2 ^ members

unfoldable pub has : ℕ → ℕ → Bool
has s n = eqb (s / 2 ^ n % 2) 1

abbrev pub empty_set : ℕ
empty_set = 0

-- the set with n; a number past the last is left out
unfoldable pub inserted : ℕ → ℕ → ℕ
inserted s n = if leb n last_member then bit_or s (2 ^ n) else s

-- the set without n
unfoldable pub removed : ℕ → ℕ → ℕ
removed s n = if leb n last_member then bit_and s (2 ^ members - 1 - 2 ^ n) else s

-- the members of either
unfoldable pub union : ℕ → ℕ → ℕ
union s t = bit_or s t

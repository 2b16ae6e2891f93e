-- The least number that passes a test.
use Rattle.std.specs.Prelude.{ℕ, ◌≤◌, ◌<◌, ◌≡◌, Bool, true, false}

-- r is the least number from n on that passes
pub record Least (test : ℕ → Bool) (n r : ℕ) : Type 0 where
  pub from : n ≤ r
  pub passes : test r ≡ true
  pub others : (q : ℕ) → n ≤ q → q < r → test q ≡ false

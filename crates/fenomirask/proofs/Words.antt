-- Signed numbers as the machine's words.
use Prim.Native.Nat.{ℕ, zero, suc, ◌<◌, ◌^◌}
use mathlib.Core.Path.{◌≡◌, ap, ◌∙◌}
use native.Mathlib.Omega.{arith}
use lib.IntN.{ℤ, pos, neg_ℤ, ◌-ℤ◌, +ℤ_idl}
use lib.Signed.{mag}
use mir.Syntax.{w64}
use mir.Val.{SFits, to_z, of_z}
use mir.Facts.{to_z-of_z}

pub negated_fits : (n : ℕ) → n < 2 ^ 63 → SFits w64 (neg_ℤ (pos n))
negated_fits zero h = record { sfits = h }
negated_fits (suc n) h = record { sfits = omega arith }

pub from_zero : (n : ℕ) → pos 0 -ℤ pos n ≡ neg_ℤ (pos n)
from_zero n = +ℤ_idl (neg_ℤ (pos n))

-- a number that fits is what its word says
pub read_back : {z y : ℤ} → mag z < 2 ^ 63 → z ≡ y → to_z w64 (of_z w64 z) ≡ y
read_back fits e = to_z-of_z {w = w64} (record { sfits = fits }) ∙ e

-- and what is taken from 0 is its negation
pub told-negated : {told : ℤ} (n : ℕ) → mag told < 2 ^ 63 → told ≡ pos n → pos 0 -ℤ to_z w64 (of_z w64 told) ≡ neg_ℤ (pos n)
told-negated n small e = ap (λ (z : ℤ). pos 0 -ℤ z) (read_back small e) ∙ from_zero n

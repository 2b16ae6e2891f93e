-- `bit_set::single`: one shifted below the word's width is the power. Assumes nothing.
use Prim.Native.Nat.{ℕ, ◌%◌, ◌^◌, ◌<◌}
use mathlib.Core.Path.{ap, ◌∙◌}
use native.Mathlib.Nat.{one-mul, mod-eq_of_lt}
use native.Mathlib.Omega.{arith}
use lib.Pow.{pow-lt}
use Rattle.bit_set.specs.BitSet.{members}
use Rattle.bit_set.proofs.single.Goals as goal

pub returns : goal.returns
returns c =
    let n = c.args.n in
    let below : n < members = omega arith in
    ap (λ (x : ℕ). x % 2 ^ members) (one-mul (2 ^ n)) ∙ mod-eq_of_lt (pow-lt below)

-- `bit_set::without`: the code is a mask. Assumes nothing.
use native.Mathlib.Omega.{arith}
use Rattle.bit_set.specs.CollectedLaws.{less_masked}
use Rattle.bit_set.proofs.without.Goals as goal

pub returns : goal.returns
returns c = less_masked _ _ (omega arith) (omega arith)

-- `bit_set::union_with`: the code is the definition. Assumes nothing.
use mathlib.Core.Path.{refl}
use Rattle.bit_set.specs.BitSet.{union}
use Rattle.bit_set.proofs.union_with.Goals as goal

pub returns : goal.returns
unfolding union
returns c = refl

-- `bit_set::least_clear`: the complement's zeros below its lowest 1 are the members before the first that is clear. Assumes nothing.
use mathlib.Core.Path.{sym}
use native.Mathlib.Omega.{arith}
use Rattle.bit_set.specs.SearchLaws.{first_clear-counted}
use Rattle.bit_set.proofs.least_clear.Goals as goal

pub returns : goal.returns
returns c = sym (first_clear-counted c.args.s (omega arith))

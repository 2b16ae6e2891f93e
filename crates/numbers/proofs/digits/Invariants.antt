-- `numbers::digits`: the digits that are left, after those of the value so far, say what the whole says. Assumes nothing.
use Prim.Native.Nat.{◌≤◌}
use mathlib.Core.Path.{◌≡◌}
use lib.ListN.{drop}
use Rattle.sizes.specs.Sizes.{largest_number}
use Rattle.numbers.specs.ReadLaws.{read_from}
use Rattle.numbers.proofs.digits.Given as goal

abbrev pub invariant-loop-c : goal.invariant-loop-c
invariant-loop-c l = (l.value ≤ largest_number) × (read_from 0 l.field ≡ read_from l.value (drop l.c-index l.field))

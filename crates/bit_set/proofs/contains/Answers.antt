-- `bit_set::contains`: the mask reads the member's digit, and past the last one there is none. Assumes nothing.
use mathlib.Core.Path.{sym}
use native.Mathlib.Omega.{arith}
use Rattle.bit_set.specs.DigitLaws.{has_mask}
use Rattle.bit_set.specs.BitSetLaws.{has_outside}
use Rattle.bit_set.proofs.contains.Goals as goal

pub returns-then-n-le-LAST_MEMBER : goal.returns-then-n-le-LAST_MEMBER
returns-then-n-le-LAST_MEMBER c = let a = c.args in rw c.single.ensures (has_mask a.s a.n)

pub returns-else-n-le-LAST_MEMBER : goal.returns-else-n-le-LAST_MEMBER
returns-else-n-le-LAST_MEMBER c =
    let s = c.args.s in
    sym (has_outside s c.args.n (omega arith) c.if-n-le-LAST_MEMBER.false)

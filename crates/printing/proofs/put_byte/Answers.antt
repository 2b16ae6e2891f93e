-- `printing::put_byte`: the byte is stored where there is room, and nothing is where there is none. Assumes nothing.
use mathlib.Core.List.{[], ◌∷◌}
use native.Mathlib.Omega.{arith}
use Rattle.printing.specs.PrintingLaws.{put_one, put_past}
use Rattle.printing.proofs.put_byte.Goals as goal

pub returns-then-at-out : goal.returns-then-at-out
returns-then-at-out c = let a = c.args in put_one a.out.now a.at a.byte c.if-at-out.true

pub returns : goal.returns
returns c = let a = c.args in put_past a.out.now a.at (a.byte ∷ []) (omega arith) c.if-at-out.false

-- `split::part_after`: the part to the end is what dropping leaves, and past the end nothing is left. Assumes nothing.
use Prim.Native.Nat.{◌+◌, ◌-◌}
use mathlib.Core.Path.{sym}
use native.Mathlib.Omega.{arith}
use lib.ListN.{length, drop, length-drop, drop_of_length-le}
use lib.Seq.{take_all}
use Rattle.split.proofs.part_after.Goals as goal

pub returns-then-end-bytes : goal.returns-then-end-bytes
returns-then-end-bytes c =
    let a = c.args in
    let s = a.bytes.now in
    take_all (length s - (a.end + 1)) (drop (a.end + 1) s) (omega (arith, length-drop (a.end + 1) s))

pub returns : goal.returns
returns c =
    let a = c.args in
    sym (drop_of_length-le a.bytes.now {i = a.end + 1} (omega arith))

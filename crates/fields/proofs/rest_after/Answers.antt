-- `fields::rest_after`: the part to the end is what dropping leaves, and past the end nothing is left. Assumes nothing.
use Prim.Native.Nat.{◌-◌}
use mathlib.Core.Path.{sym}
use native.Mathlib.Omega.{arith}
use lib.ListN.{length, drop, length-drop, drop_of_length-le}
use lib.Seq.{take_all}
use Rattle.fields.proofs.rest_after.Goals as goal

pub returns-then-end-rest : goal.returns-then-end-rest
returns-then-end-rest c =
    let a = c.args in
    let s = a.rest.now in
    take_all (length s - a.end) (drop a.end s) (omega (arith, length-drop a.end s))

pub returns : goal.returns
returns c =
    let a = c.args in
    sym (drop_of_length-le a.rest.now {i = a.end} (omega arith))

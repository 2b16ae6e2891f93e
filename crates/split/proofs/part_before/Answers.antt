-- `split::part_before`: the part up to the end, or all where the end lies past it. Assumes nothing.
use Prim.Native.Nat.{ℕ, ◌-◌}
use mathlib.Core.Path.{◌≡◌, ap, sym}
use native.Mathlib.Omega.{arith}
use lib.ListN.{take}
use lib.Seq.{take_all}
use Rattle.split.proofs.part_before.Goals as goal

pub returns-then-end-bytes : goal.returns-then-end-bytes
returns-then-end-bytes c =
    let a = c.args in
    let e : a.end - 0 ≡ a.end = omega arith in
    ap (λ (k : ℕ). take k a.bytes.now) e

pub returns : goal.returns
returns c =
    let a = c.args in
    sym (take_all a.end a.bytes.now (omega arith))

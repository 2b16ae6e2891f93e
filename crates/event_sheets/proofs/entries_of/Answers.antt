-- `event_sheets::entries_of`: so many entries from the first on. Assumes nothing.
use Prim.Native.Nat.{ℕ, ◌-◌}
use mathlib.Core.Path.{◌≡◌, ap, sym}
use native.Mathlib.Omega.{arith}
use lib.ListN.{take}
use lib.Seq.{take_all}
use Rattle.event_sheets.proofs.entries_of.Goals as goal

pub returns-then-count-list : goal.returns-then-count-list
returns-then-count-list c =
    let a = c.args in
    let e : a.count - 0 ≡ a.count = omega arith in
    ap (λ (k : ℕ). take k a.list.now) e

pub returns : goal.returns
returns c =
    let a = c.args in
    sym (take_all a.count a.list.now (omega arith))

-- `perm_free_list::look`: a look from entry i on, i entries dropped, finds what the whole look finds. Assumes nothing.
use Prim.Native.Nat.{◌-◌}
use mathlib.Core.Path.{◌≡◌}
use Rattle.perm_free_list.specs.PermFreeList.{entries, looked}
use Rattle.perm_free_list.proofs.look.Given as goal

abbrev pub invariant-loop-i : goal.invariant-loop-i
invariant-loop-i l =
    looked l.records l.chunk 0 (entries l.list l.first 0 l.count)
    ≡ looked l.records l.chunk l.i (entries l.list l.first l.i (l.count - l.i))

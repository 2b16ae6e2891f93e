-- `perm_free_list::look`: a look from entry i on, i entries dropped, finds what the whole look finds. Assumes nothing.
use Prim.Native.Nat.{ℕ, ◌-◌}
use mathlib.Core.Path.{◌≡◌, ap, sym, ◌∙◌}
use native.Mathlib.Omega.{arith}
use Rattle.perm_free_list.specs.PermFreeList.{entries, none, looked}
use Rattle.perm_free_list.specs.PermFreeListLaws.{entries_more, entries_none, looked_late, looked-taken, looked_dropped, looked-none}
use Rattle.perm_free_list.proofs.look.Goals as goal

pub loop-i-init : goal.loop-i-init
loop-i-init c =
    let a = c.args in
    let e : a.count ≡ a.count - 0 = omega arith in
    ap (λ (n : ℕ). looked a.records.now a.chunk 0 (entries a.list.now a.first 0 n)) e

pub returns-then-chunk-entry : goal.returns-then-chunk-entry
returns-then-chunk-entry c =
    let a = c.args in
    let l = c.loop-i in
    let more = entries_more a.list.now a.first l.i a.count _ c.entry_at-entry.ensures c.loop-i-test.true in
    sym (l.invariant ∙ ap (looked a.records.now a.chunk l.i) more ∙ looked_late a.records.now a.chunk l.i _ _ c.if-chunk-entry.true)

pub returns-in-Some : goal.returns-in-Some
returns-in-Some c =
    let a = c.args in
    let l = c.loop-i in
    let more = entries_more a.list.now a.first l.i a.count _ c.entry_at-entry.ensures c.loop-i-test.true in
    sym
    (l.invariant
    ∙ ap (looked a.records.now a.chunk l.i) more
    ∙ looked-taken a.records.now a.chunk l.i _ _ c.if-chunk-entry.false _ (sym c.in-Some.ensures))

pub loop-i-preserved : goal.loop-i-preserved
loop-i-preserved c =
    let a = c.args in
    let l = c.loop-i in
    let more = entries_more a.list.now a.first l.i a.count _ c.entry_at-entry.ensures c.loop-i-test.true in
    l.invariant
    ∙ ap (looked a.records.now a.chunk l.i) more
    ∙ looked_dropped a.records.now a.chunk l.i _ _ c.if-chunk-entry.false (sym c.in_default.ensures)

pub returns : goal.returns
returns c =
    let a = c.args in
    let l = c.loop-i in
    let all : l.i ≡ a.count = omega arith in
    sym
    (l.invariant
    ∙ ap (looked a.records.now a.chunk l.i) (entries_none a.list.now a.first l.i a.count c.loop-i-test.false)
    ∙ looked-none a.records.now a.chunk l.i
    ∙ ap none all)

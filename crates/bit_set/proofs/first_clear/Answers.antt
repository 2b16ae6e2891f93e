-- `bit_set::first_clear`: shifted down by the start, the search is from 0 on. Assumes nothing.
use Prim.Native.Nat.{ℕ, ◌+◌}
use mathlib.Core.Path.{ap, sym, ◌∙◌}
use native.Mathlib.Omega.{arith}
use borrow.Author.Rules.{rules}
use Rattle.bit_set.specs.SearchLaws.{first_clear_at_most, first_clear_past, first_clear_shifted}
use Rattle.bit_set.proofs.first_clear.Goals as goal

pub overflow_add-result : goal.overflow_add-result
overflow_add-result c = let at_most = first_clear_at_most _ _ c.least_clear.ensures in search (rules, at_most)

pub returns-then-from-le-LAST_MEMBER : goal.returns-then-from-le-LAST_MEMBER
returns-then-from-le-LAST_MEMBER c =
    let a = c.args in
    ap (λ (r : ℕ). a.from + r) c.least_clear.ensures ∙ sym (first_clear_shifted a.s a.from (omega arith))

pub returns-else-from-le-LAST_MEMBER : goal.returns-else-from-le-LAST_MEMBER
returns-else-from-le-LAST_MEMBER c = let a = c.args in sym (first_clear_past a.s (omega arith) a.from c.if-from-le-LAST_MEMBER.false)

-- `event_lines::read_list`: the entries that are left, behind those that were put, make the whole list, and have a form
-- exactly if the whole has. The measure is what is left of the line. Assumes nothing.
use Prim.Native.Nat.{ℕ, ◌<◌}
use Rattle.std.specs.Prelude.{Some}
use mathlib.Core.Path.{◌≡◌, refl, sym, ap, ◌∙◌}
use native.Mathlib.Omega.{arith}
use lib.ListN.{length, drop}
use borrow.Author.Rules.{rules}
use borrow.Author.Tests.{eqb-true}
use Rattle.std.proofs.lemmas.Bool.{eqb-false}
use Rattle.fields.specs.Fields.{fields_left}
use Rattle.fields.specs.FieldsLaws.{left_none, left_some, left_shorter}
use Rattle.printing.specs.Printing.{printed}
use Rattle.event_lines.specs.ReadLaws.{all_none, all_not, all_more, leading-none, leading-not, leading_more, counted_all, counted-not, put-none, put_more}
use Rattle.event_lines.proofs.read_list.Goals as goal

pub loop-left-init : goal.loop-left-init
loop-left-init c = (omega arith, refl, omega arith, refl, refl)

pub returns-in_err-entry : goal.returns-in_err-entry
returns-in_err-entry c =
    let a = c.args in
    let l = c.loop-left in
    let left = l.left.now in
    let some : 0 < length left = omega (arith, eqb-false (length left) 0 (sym c.is_empty.ensures ∙ c.loop-left-test.true)) in
    let none = sym (simp (c.field.ensures, c.end_of_field-end.ensures) at c.in_err-entry.ensures) in (record {
      value = c.from_residual.ensures ∙ sym (counted-not _ _ (l.invariant.1 ∙ all_not a.entries a.mark left some none));
      list_after = sym (put-none l.list l.count)
          ∙ ap (printed l.list l.count) (sym (leading-not a.entries a.mark left some none))
          ∙ l.invariant.3;
    })

pub loop-left-smaller : goal.loop-left-smaller
loop-left-smaller c =
    let a = c.args in
    let left = c.loop-left.left.now in
    let some : 0 < length left = omega (arith, eqb-false (length left) 0 (sym c.is_empty.ensures ∙ c.loop-left-test.true)) in
    let behind = c.rest_after-left.ensures ∙ ap (λ (k : ℕ). drop k left) c.end_of_field-end.ensures in
    omega (arith, ap length behind, left_shorter a.mark left some)

pub loop-left-preserved : goal.loop-left-preserved
loop-left-preserved c =
    let a = c.args in
    let l = c.loop-left in
    let left = l.left.now in
    let some : 0 < length left = omega (arith, eqb-false (length left) 0 (sym c.is_empty.ensures ∙ c.loop-left-test.true)) in
    let behind = c.rest_after-left.ensures ∙ ap (λ (k : ℕ). drop k left) c.end_of_field-end.ensures in
    let n = c.in_ok-entry.entry in
    let one = sym (simp (c.field.ensures, c.end_of_field-end.ensures) at c.in_ok-entry.ensures) in
    rw behind (
      omega (arith, left_shorter a.mark left some),
      l.invariant.1 ∙ all_more a.entries a.mark left some n one,
      omega (arith, ap length (left_some a.mark left some)),
      put_more l.list l.count n _ c.put_entry.ensures
          ∙ ap (printed l.list l.count) (sym (leading_more a.entries a.mark left some n one))
          ∙ l.invariant.3,
      search rules,
    )

pub returns : goal.returns
returns c =
    let a = c.args in
    let l = c.loop-left in
    let left = l.left.now in
    let empty : length left ≡ 0 = eqb-true (length left) 0 (sym c.is_empty.ensures ∙ c.loop-left-test.false) in
    let count : l.count ≡ length (fields_left a.mark a.rest.now) = omega (arith, ap length (left_none a.mark left empty)) in (record {
      value = ap Some count ∙ sym (counted_all _ _ (l.invariant.1 ∙ all_none a.entries a.mark left empty));
      list_after = sym (put-none l.list l.count)
          ∙ ap (printed l.list l.count) (sym (leading-none a.entries a.mark left empty))
          ∙ l.invariant.3;
    })

-- `check_lines::line_of`: the fields end before the next one, with it, with the one behind it, or not yet. Assumes nothing.
use Prim.Native.Nat.{ℕ, ◌<◌}
use mathlib.Core.Path.{sym, ap, ◌∙◌}
use native.Mathlib.Omega.{arith}
use lib.ListN.{length, drop}
use borrow.Author.Tests.{eqb-true}
use Rattle.std.specs.Prelude.{Some}
use Rattle.std.proofs.lemmas.Bool.{eqb-false}
use Rattle.check_lines.proofs.ReadingLaws.{by-none}
use Rattle.check_lines.proofs.CheckLinesLaws.{behind, NextIsLast, said_none, said_malformed, said_one, said_two, said_more}
use Rattle.check_lines.proofs.line_of.Goals as goal

pub returns-then-is_empty : goal.returns-then-is_empty
returns-then-is_empty c =
    let a = c.args in
    c.no_field.ensures ∙ sym (said_none a.code a.rest.now (eqb-true _ 0 (sym c.is_empty.ensures ∙ c.if-is_empty.true)))

pub returns-in_err-first : goal.returns-in_err-first
returns-in_err-first c =
    let a = c.args in
    let some : 0 < length a.rest.now = omega (arith, eqb-false (length a.rest.now) 0 (sym c.is_empty.ensures ∙ c.if-is_empty.false)) in
    let none = simp (c.field.ensures, c.end_of_field-end.ensures) at c.in_err-first.ensures in
    c.from_residual.ensures ∙ sym (said_malformed a.code a.rest.now some (sym none))

pub returns-then-end-rest : goal.returns-then-end-rest
returns-then-end-rest c =
    let a = c.args in
    let ends = c.end_of_field-end.ensures in
    let first = simp (c.field.ensures, ends) at c.in_ok-first.ensures in
    c.one_field.ensures ∙ sym (said_one a.code a.rest.now (sym ends ∙ c.if-end-rest.true) ∙ simp (← first))

pub returns-then-last-behind : goal.returns-then-last-behind
returns-then-last-behind c =
    let a = c.args in
    let ends = c.end_of_field-end.ensures in
    let cut = c.rest_after-behind.ensures ∙ ap (λ (n : ℕ). drop n a.rest.now) ends in
    let last = c.end_of_field-last.ensures in
    let empty = eqb-false (length a.rest.now) 0 (sym c.is_empty.ensures ∙ c.if-is_empty.false) in
    let more : NextIsLast (behind a.rest.now) → ⊥ = rw (← cut) (λ e. c.if-last-behind.true (last ∙ e)) in
    let other : NextIsLast a.rest.now → ⊥ = λ e. c.if-end-rest.false (ends ∙ e) in
    sym (said_more a.code a.rest.now empty other more)

pub returns-in_err-second : goal.returns-in_err-second
returns-in_err-second c =
    let a = c.args in
    let ends = c.end_of_field-end.ensures in
    let rest = c.rest_after-behind.ensures in
    let cut = rest ∙ ap (λ (n : ℕ). drop n a.rest.now) ends in
    let last = c.end_of_field-last.ensures in
    let whole : NextIsLast (behind a.rest.now) = rw (← cut) (sym last ∙ c.if-last-behind.false) in
    let first = simp (c.field.ensures, ends) at c.in_ok-first.ensures in
    let none = simp (c.field-2.ensures, last, rest, ends) at c.in_err-second.ensures in
    c.from_residual-in_err-second.ensures
    ∙ sym (said_two a.code a.rest.now whole ∙ simp (← first, ← none) (by-none (Some c.in_ok-first.first)))

pub returns : goal.returns
returns c =
    let a = c.args in
    let ends = c.end_of_field-end.ensures in
    let rest = c.rest_after-behind.ensures in
    let cut = rest ∙ ap (λ (n : ℕ). drop n a.rest.now) ends in
    let last = c.end_of_field-last.ensures in
    let whole : NextIsLast (behind a.rest.now) = rw (← cut) (sym last ∙ c.if-last-behind.false) in
    let first = simp (c.field.ensures, ends) at c.in_ok-first.ensures in
    let second = simp (c.field-2.ensures, last, rest, ends) at c.in_ok-second.ensures in
    c.two_fields.ensures ∙ sym (said_two a.code a.rest.now whole ∙ simp (← first, ← second))

-- `numbers::digits`: the digits that are left, after those of the value so far, say what the whole says. Assumes nothing.
use mathlib.Core.Logic.{inl, inr}
use mathlib.Core.Path.{sym, ◌∙◌}
use native.Mathlib.Numerals.{add-one}
use native.Mathlib.Omega.{arith}
use borrow.Author.Rules.{rules}
use Rattle.numbers.specs.ReadLaws.{read-end, read_low, read_high, read_more, read_large}
use Rattle.numbers.proofs.digits.Goals as goal

pub returns-then-not-is_ascii_digit : goal.returns-then-not-is_ascii_digit
returns-then-not-is_ascii_digit c =
    let l = c.loop-c in
    let s = c.args.field.now in
    sym
    (l.invariant.1
    ∙ elim c.if-not-is_ascii_digit.ensures.cases [
      | inl low ↦ read_low s l.c-index l.value (search rules) low
      | inr high ↦ read_high s l.c-index l.value (search rules) high
    ])

pub returns-then-value : goal.returns-then-value
returns-then-value c =
    let l = c.loop-c in
    let s = c.args.field.now in
    let digit = c.if-not-is_ascii_digit.ensures.cases in
    sym
    (l.invariant.1
    ∙ read_more s l.c-index l.value (search rules) digit.0 digit.1
    ∙ read_large _ _ (omega arith))

pub loop-c-preserved : goal.loop-c-preserved
loop-c-preserved c =
    let l = c.loop-c in
    let s = c.args.field.now in
    let digit = c.if-not-is_ascii_digit.ensures.cases in
    (omega arith, l.invariant.1 ∙ rw (add-one, c.from.ensures) (read_more s l.c-index l.value (search rules) digit.0 digit.1))

pub returns : goal.returns
returns c =
    let l = c.loop-c in
    sym (l.invariant.1 ∙ read-end c.args.field.now l.c-index l.value (search rules) l.invariant.0)

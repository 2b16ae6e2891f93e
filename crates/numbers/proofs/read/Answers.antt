-- `numbers::read`: each way of the code is a case of the definition. Assumes nothing.
use mathlib.Core.Path.{sym, ◌∙◌}
use native.Mathlib.Omega.{arith}
use borrow.Author.Rules.{rules}
use Rattle.numbers.specs.ReadLaws.{number-empty, number-zero, number_needless, number_digits}
use Rattle.numbers.proofs.read.Goals as goal
use Rattle.numbers.proofs.read.Goals.{in_default-via-then-field-lt2+in_default-1, in_default-via-else-field-lt2+in_default-1}

pub returns-in-empty : goal.returns-in-empty
returns-in-empty c = sym (number-empty c.args.field.now (omega arith))

pub returns-in-48 : goal.returns-in-48
returns-in-48 c = sym (number-zero c.args.field.now (omega arith) (omega arith))

pub returns-in-48-2 : goal.returns-in-48-2
returns-in-48-2 c = sym (number_needless c.args.field.now (omega arith) (omega arith))

pub returns-in_default : goal.returns-in_default
returns-in_default c =
    let s = c.args.field.now in
    c.digits.ensures ∙ sym (number_digits s (search rules) (elim c.in_default.branch [
      | in_default-via-then-field-lt2+in_default-1 w ↦ λ e. omega arith
      | in_default-via-else-field-lt2+in_default-1 w ↦ λ e. omega arith
    ]))

-- `check_lines::no_field`: each way of the code is a case of the definition. Assumes nothing.
use borrow.Author.Tests.{ne_eqb}
use Rattle.check_lines.specs.Reading.{no_field}
use Rattle.check_lines.proofs.no_field.Goals as goal

pub returns-in-1 : goal.returns-in-1
unfolding no_field
returns-in-1 c = simp c.in-1.is

pub returns-in_default : goal.returns-in_default
unfolding no_field
returns-in_default c = simp (ne_eqb _ _ c.in_default.in_default-own.rest.1)

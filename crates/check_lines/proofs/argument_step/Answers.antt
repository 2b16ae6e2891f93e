-- `check_lines::argument_step`: each way of the code is a case of the definition. Assumes nothing.
use borrow.Author.Tests.{ne_eqb}
use Rattle.check_lines.specs.Reading.{argument_step}
use Rattle.check_lines.proofs.argument_step.Goals as goal

pub returns-in-4 : goal.returns-in-4
unfolding argument_step
returns-in-4 c = simp c.in-4.is

pub returns-in-5 : goal.returns-in-5
unfolding argument_step
returns-in-5 c = simp c.in-5.is

pub returns-in_default : goal.returns-in_default
unfolding argument_step
returns-in_default c = simp (ne_eqb _ _ c.in_default.in_default-own.rest.1, ne_eqb _ _ c.in_default.in_default-own.rest.0.1)

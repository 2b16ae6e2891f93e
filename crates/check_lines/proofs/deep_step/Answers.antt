-- `check_lines::deep_step`: each way of the code is a case of the definition. Assumes nothing.
use borrow.Author.Tests.{ne_eqb}
use Rattle.check_lines.specs.Reading.{deep_step}
use Rattle.check_lines.proofs.deep_step.Goals as goal

pub returns-in-2 : goal.returns-in-2
unfolding deep_step
returns-in-2 c = simp c.in-2.is

pub returns-in-3 : goal.returns-in-3
unfolding deep_step
returns-in-3 c = simp c.in-3.is

pub returns-in_default : goal.returns-in_default
unfolding deep_step
returns-in_default c = simp (ne_eqb _ _ c.in_default.in_default-own.rest.1, ne_eqb _ _ c.in_default.in_default-own.rest.0.1)

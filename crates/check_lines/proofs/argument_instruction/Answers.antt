-- `check_lines::argument_instruction`: each way of the code is a case of the definition. Assumes nothing.
use borrow.Author.Tests.{ne_eqb}
use Rattle.check_lines.specs.Reading.{argument_instruction}
use Rattle.check_lines.proofs.argument_instruction.Goals as goal

pub returns-in-6 : goal.returns-in-6
unfolding argument_instruction
returns-in-6 c = simp c.in-6.is

pub returns-in-7 : goal.returns-in-7
unfolding argument_instruction
returns-in-7 c = simp c.in-7.is

pub returns-in-8 : goal.returns-in-8
unfolding argument_instruction
returns-in-8 c = simp c.in-8.is

pub returns-in-9 : goal.returns-in-9
unfolding argument_instruction
returns-in-9 c = simp c.in-9.is

pub returns-in-10 : goal.returns-in-10
unfolding argument_instruction
returns-in-10 c = simp (c.in-10.is, c.unsafe_line.ensures)

pub returns-in_default : goal.returns-in_default
unfolding argument_instruction
returns-in_default c =
    simp (
      ne_eqb _ _ c.in_default.in_default-own.rest.1,
      ne_eqb _ _ c.in_default.in_default-own.rest.0.1,
      ne_eqb _ _ c.in_default.in_default-own.rest.0.0.1,
      ne_eqb _ _ c.in_default.in_default-own.rest.0.0.0.1,
      ne_eqb _ _ c.in_default.in_default-own.rest.0.0.0.0.1,
    )

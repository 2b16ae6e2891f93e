-- `check_lines::place_instruction`: each way of the code is a case of the definition. Assumes nothing.
use borrow.Author.Tests.{ne_eqb}
use Rattle.check_lines.specs.Reading.{place_instruction}
use Rattle.check_lines.proofs.place_instruction.Goals as goal

pub returns-in-11 : goal.returns-in-11
unfolding place_instruction
returns-in-11 c = simp c.in-11.is

pub returns-in-12 : goal.returns-in-12
unfolding place_instruction
returns-in-12 c = simp c.in-12.is

pub returns-in-13 : goal.returns-in-13
unfolding place_instruction
returns-in-13 c = simp c.in-13.is

pub returns-in-14 : goal.returns-in-14
unfolding place_instruction
returns-in-14 c = simp c.in-14.is

pub returns-in-15 : goal.returns-in-15
unfolding place_instruction
returns-in-15 c = simp c.in-15.is

pub returns-in-16 : goal.returns-in-16
unfolding place_instruction
returns-in-16 c = simp c.in-16.is

pub returns-in_default : goal.returns-in_default
unfolding place_instruction
returns-in_default c =
    simp (
      ne_eqb _ _ c.in_default.in_default-own.rest.1,
      ne_eqb _ _ c.in_default.in_default-own.rest.0.1,
      ne_eqb _ _ c.in_default.in_default-own.rest.0.0.1,
      ne_eqb _ _ c.in_default.in_default-own.rest.0.0.0.1,
      ne_eqb _ _ c.in_default.in_default-own.rest.0.0.0.0.1,
      ne_eqb _ _ c.in_default.in_default-own.rest.0.0.0.0.0.1,
    )

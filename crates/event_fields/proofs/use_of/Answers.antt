-- `event_fields::use_of`: the code is the definition. Assumes nothing.
use Rattle.std.proofs.Common.{◌∙◌}
use Rattle.split.specs.SplitLaws.{take-before, drop-before}
use Rattle.event_fields.specs.EventFields.{use_of}
use Rattle.event_fields.proofs.use_of.Goals as goal

pub returns-in_err-context : goal.returns-in_err-context
unfolding use_of
returns-in_err-context c =
    let none = simp (c.part_before.ensures, c.end_of-end.ensures, take-before) at c.in_err-context.ensures in
    c.from_residual.ensures ∙ simp (← none)

pub returns-in_err-register : goal.returns-in_err-register
unfolding use_of
returns-in_err-register c =
    let some = simp (c.part_before.ensures, c.end_of-end.ensures, take-before) at c.in_ok-context.ensures in
    let none = simp (c.part_after.ensures, c.end_of-end.ensures, drop-before) at c.in_err-register.ensures in
    c.from_residual-in_err-register.ensures ∙ simp (← some, ← none)

pub returns : goal.returns
unfolding use_of
returns c =
    let context = simp (c.part_before.ensures, c.end_of-end.ensures, take-before) at c.in_ok-context.ensures in
    let register = simp (c.part_after.ensures, c.end_of-end.ensures, drop-before) at c.in_ok-register.ensures in
    simp (← context, ← register, c.use_in.ensures)

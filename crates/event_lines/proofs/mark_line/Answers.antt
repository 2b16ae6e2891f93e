-- `event_lines::mark_line`: the next three fields, and what is left behind them. Assumes nothing.
use Rattle.std.proofs.Common.{sym, ◌∙◌}
use Rattle.event_lines.specs.ReadLaws.{mark_step}
use Rattle.event_lines.proofs.mark_line.Goals as goal

pub returns-in_err-target : goal.returns-in_err-target
returns-in_err-target c =
    let none = simp (c.field.ensures, c.end_of_field-target_end.ensures) at c.in_err-target.ensures in
    c.from_residual.ensures ∙ sym (mark_step c.args.code c.args.rest.now ∙ simp (← none))

pub returns-in_err-level : goal.returns-in_err-level
returns-in_err-level c =
    let second = simp c.end_of_field-target_end.ensures at c.rest_after-from_level.ensures in
    let target = simp (c.field.ensures, c.end_of_field-target_end.ensures) at c.in_ok-target.ensures in
    let none = simp (c.field-2.ensures, c.end_of_field-level_end.ensures, second) at c.in_err-level.ensures in
    c.from_residual-in_err-level.ensures ∙ sym (mark_step c.args.code c.args.rest.now ∙ simp (← target, ← none))

pub returns-in_err-context : goal.returns-in_err-context
returns-in_err-context c =
    let second = simp c.end_of_field-target_end.ensures at c.rest_after-from_level.ensures in
    let third = simp (c.end_of_field-level_end.ensures, second) at c.rest_after-from_context.ensures in
    let target = simp (c.field.ensures, c.end_of_field-target_end.ensures) at c.in_ok-target.ensures in
    let level = simp (c.field-2.ensures, c.end_of_field-level_end.ensures, second) at c.in_ok-level.ensures in
    let none = simp (c.field-3.ensures, c.end_of_field-context_end.ensures, third) at c.in_err-context.ensures in
    c.from_residual-in_err-context.ensures ∙ sym (mark_step c.args.code c.args.rest.now ∙ simp (← target, ← level, ← none))

pub returns : goal.returns
returns c =
    let second = simp c.end_of_field-target_end.ensures at c.rest_after-from_level.ensures in
    let third = simp (c.end_of_field-level_end.ensures, second) at c.rest_after-from_context.ensures in
    let target = simp (c.field.ensures, c.end_of_field-target_end.ensures) at c.in_ok-target.ensures in
    let level = simp (c.field-2.ensures, c.end_of_field-level_end.ensures, second) at c.in_ok-level.ensures in
    let context = simp (c.field-3.ensures, c.end_of_field-context_end.ensures, third) at c.in_ok-context.ensures in
    simp (c.mark_of.ensures, c.rest_after-behind.ensures, c.end_of_field-context_end.ensures, third)
    (sym (mark_step c.args.code c.args.rest.now ∙ simp (← target, ← level, ← context)))

-- `reserved_var::empty_argument`: each way of the code is a case of the definition. Assumes nothing.
use mathlib.Core.Path.{sym, ◌∙◌}
use borrow.Author.Tests.{eq-eqb, ne_eqb}
use Rattle.shallow_temp_mappings.specs.MappingsLaws.{variable_at-none, variable_at-some}
use Rattle.reserved_var.specs.ReservedVar.{others_out}
use Rattle.reserved_var.proofs.empty_argument.Goals as goal

pub returns-in_default : goal.returns-in_default
unfolding others_out
returns-in_default c = simp (variable_at-none _ _ (sym c.variable_at.ensures ∙ c.in_default.is), c.going.ensures)

pub returns-then-mapped-v : goal.returns-then-mapped-v
unfolding others_out
returns-then-mapped-v c =
    let mapped = variable_at-some _ _ _ (sym c.variable_at.ensures ∙ c.in-Some.is) in
    simp (mapped.0, mapped.1, eq-eqb _ _ c.if-mapped-v.true, c.going-then-mapped-v.ensures)

pub returns : goal.returns
unfolding others_out
returns c =
    let mapped = variable_at-some _ _ _ (sym c.variable_at.ensures ∙ c.in-Some.is) in
    simp (mapped.0, mapped.1, ne_eqb _ _ c.if-mapped-v.false, c.evacuate_arg.ensures)

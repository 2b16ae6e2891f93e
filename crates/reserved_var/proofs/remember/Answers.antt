-- `reserved_var::remember`: each way of the code is a case of the definition. Assumes nothing.
use mathlib.Core.Path.{sym, ◌∙◌}
use Rattle.shallow_temp_mappings.specs.MappingsLaws.{variable_at-none, variable_at-some}
use Rattle.reserved_var.specs.ReservedVar.{remembered}
use Rattle.reserved_var.proofs.remember.Goals as goal

pub returns-in_default : goal.returns-in_default
unfolding remembered
returns-in_default c = simp (variable_at-none _ _ (sym c.variable_at.ensures ∙ c.in_default.is))

pub returns : goal.returns
unfolding remembered
returns c =
    let mapped = variable_at-some _ _ _ (sym c.variable_at.ensures ∙ c.in-Some.is) in
    simp (mapped.0, mapped.1, ← c.load-variable.ensures, ← c.remember_perm.ensures, c.keep_safe.ensures)

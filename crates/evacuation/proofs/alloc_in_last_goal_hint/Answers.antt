-- `evacuation::alloc_in_last_goal_hint`: each way of the code is a case of the definition. Assumes nothing.
use mathlib.Core.Path.{sym, ◌∙◌}
use Rattle.shallow_temp_mappings.specs.MappingsLaws.{variable_at-none, variable_at-some}
use Rattle.evacuation.specs.Evacuation.{hint}
use Rattle.evacuation.proofs.alloc_in_last_goal_hint.Goals as goal

pub returns-in_default : goal.returns-in_default
unfolding hint
returns-in_default c = simp (variable_at-none _ _ (sym c.variable_at.ensures ∙ c.in_default.is))

pub returns-then-not-is_temporary : goal.returns-then-not-is_temporary
unfolding hint
returns-then-not-is_temporary c =
    let mapped = variable_at-some _ _ _ (sym c.variable_at.ensures ∙ c.in-Some.is) in
    simp (mapped.0, mapped.1, ← c.is_temporary.ensures, c.if-not-is_temporary.true)

pub returns-then-contains_use : goal.returns-then-contains_use
unfolding hint
returns-then-contains_use c =
    let mapped = variable_at-some _ _ _ (sym c.variable_at.ensures ∙ c.in-Some.is) in
    simp (mapped.0, mapped.1, ← c.is_temporary.ensures, c.if-not-is_temporary.false, ← c.last_use-here.ensures, ← c.contains_use.ensures, c.if-contains_use.true)

pub returns-in-Some-alloc_with_ca : goal.returns-in-Some-alloc_with_ca
unfolding hint
returns-in-Some-alloc_with_ca c =
    let mapped = variable_at-some _ _ _ (sym c.variable_at.ensures ∙ c.in-Some.is) in
    simp (mapped.0, mapped.1, ← c.is_temporary.ensures, c.if-not-is_temporary.false, ← c.last_use-here.ensures, ← c.contains_use.ensures, c.if-contains_use.false, ← c.alloc_with_ca.ensures, c.in-Some-alloc_with_ca.is)

pub returns-in-None : goal.returns-in-None
unfolding hint
returns-in-None c =
    let mapped = variable_at-some _ _ _ (sym c.variable_at.ensures ∙ c.in-Some.is) in
    simp (mapped.0, mapped.1, ← c.is_temporary.ensures, c.if-not-is_temporary.false, ← c.last_use-here.ensures, ← c.contains_use.ensures, c.if-contains_use.false, ← c.alloc_with_ca.ensures, c.in-None.is)

-- `mark_var::mark_new_temporary`: each way of the code is a case of the definition. Assumes nothing.
use mathlib.Core.Path.{sym, ◌∙◌}
use Rattle.mark_var.specs.MarkVar.{new_temporary_marked, new_temporary_after}
use Rattle.mark_var.specs.MarkVarLaws.{placed_marked}
use Rattle.mark_var.proofs.mark_new_temporary.Goals as goal

pub returns-then-is_some : goal.returns-then-is_some
unfolding new_temporary_marked new_temporary_after
returns-then-is_some c = simp (← c.alloc_reg_to_var-placed.ensures, ← c.is_some.ensures, c.if-is_some.true)

pub returns : goal.returns
unfolding new_temporary_marked
returns c =
    placed_marked _ _ _ _ _ c.alloc_reg_to_var-placed.ensures (sym c.is_some.ensures ∙ c.if-is_some.false) c.mark_at.ensures

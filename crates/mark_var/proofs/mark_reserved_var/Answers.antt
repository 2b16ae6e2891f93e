-- `mark_var::mark_reserved_var`: each way of the code is a case of the definition. Assumes nothing.
use mathlib.Core.Path.{sym, ◌∙◌}
use Rattle.mark_var.specs.MarkVar.{reserved_marked, reserved_after}
use Rattle.mark_var.specs.MarkVarLaws.{reserved_finished}
use Rattle.mark_var.proofs.mark_reserved_var.Goals as goal

pub returns-then-is_some : goal.returns-then-is_some
unfolding reserved_marked reserved_after
returns-then-is_some c = simp (← c.instruct-reached.ensures, ← c.is_some.ensures, c.if-is_some.true)

pub returns : goal.returns
unfolding reserved_marked
returns c =
    reserved_finished _ _ _ _ _ _ c.instruct-reached.ensures (sym c.is_some.ensures ∙ c.if-is_some.false) c.finish.ensures

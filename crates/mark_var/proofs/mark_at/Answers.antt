-- `mark_var::mark_at`: the code is the definition. Assumes nothing.
use Rattle.mark_var.specs.MarkVar.{marked_at}
use Rattle.mark_var.specs.MarkVarLaws.{marked-with_place}
use Rattle.mark_var.proofs.mark_at.Goals as goal

pub returns : goal.returns
unfolding marked_at
returns c = marked-with_place _ c.mark_reserved_var-reached.ensures

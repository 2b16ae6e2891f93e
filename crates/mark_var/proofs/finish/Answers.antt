-- `mark_var::finish`: each way of the code is a case of the definition. Assumes nothing.
use Rattle.mark_var.specs.MarkVar.{finished, finished_after}
use Rattle.mark_var.proofs.finish.Goals as goal

pub returns-then-is_some : goal.returns-then-is_some
unfolding finished finished_after
returns-then-is_some c = simp (← c.note_place-refusal.ensures, ← c.is_some.ensures, c.if-is_some.true)

pub returns : goal.returns
unfolding finished finished_after
returns c = simp (← c.note_place-refusal.ensures, ← c.is_some.ensures, c.if-is_some.false, ← c.settle-released.ensures)

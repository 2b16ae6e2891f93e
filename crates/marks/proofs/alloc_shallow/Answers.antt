-- `marks::alloc_shallow`: each way of the code is a case of the definition. Assumes nothing.
use Rattle.marks.specs.Marks.{alloc_shallow, after_evacuation}
use Rattle.marks.proofs.alloc_shallow.Goals as goal

pub returns-then-is_some : goal.returns-then-is_some
unfolding alloc_shallow after_evacuation
returns-then-is_some c = simp (← c.evacuate_arg-reached.ensures, ← c.is_some.ensures, c.if-is_some.true)

pub returns : goal.returns
unfolding alloc_shallow after_evacuation
returns c = simp (← c.evacuate_arg-reached.ensures, ← c.is_some.ensures, c.if-is_some.false, ← c.alloc_with_cr-chosen.ensures, c.chosen_or_refused.ensures)

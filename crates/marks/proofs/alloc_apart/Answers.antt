-- `marks::alloc_apart`: the code is the definition. Assumes nothing.
use Rattle.marks.specs.Marks.{alloc_apart}
use Rattle.marks.proofs.alloc_apart.Goals as goal

pub returns : goal.returns
unfolding alloc_apart
returns c = simp (← c.alloc_with_ca-chosen.ensures, ← c.going.ensures, c.chosen_or_refused.ensures)

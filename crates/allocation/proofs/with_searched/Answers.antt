-- `allocation::with_searched`: the code is the definition. Assumes nothing.
use Rattle.allocation.proofs.with_searched.Goals as goal

pub returns : goal.returns
returns c = simp (← c.counter_after.ensures, c.insert.ensures)

-- `record_marks::safe_in`: the code is the definition. Assumes nothing.
use Rattle.record_marks.specs.RecordMarks.{safe_in}
use Rattle.record_marks.proofs.safe_in.Goals as goal

pub returns : goal.returns
unfolding safe_in
returns c = simp (← c.unneeded-safe.ensures, c.allocated.ensures)

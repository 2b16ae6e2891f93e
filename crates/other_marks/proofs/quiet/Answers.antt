-- `other_marks::quiet`: the code is the definition. Assumes nothing.
use Rattle.other_marks.proofs.quiet.Goals as goal

pub returns : goal.returns
returns c = simp c.going.ensures

-- `variable_records::needed_if`: the test of the code is the test of the definition. Assumes nothing.
use Rattle.variable_records.specs.Safety.{needed_if}
use Rattle.variable_records.proofs.needed_if.Goals as goal

pub returns-then-needed : goal.returns-then-needed
unfolding needed_if
returns-then-needed c = simp c.if-needed.true

pub returns : goal.returns
unfolding needed_if
returns c = simp (c.if-needed.false, c.unneeded.ensures)

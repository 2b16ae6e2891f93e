-- `variable_records::unneeded`: the test of the code is the test of the definition. Assumes nothing.
use borrow.Author.Tests.{lt-ltb, le-ltb}
use Rattle.variable_records.specs.Safety.{unneeded_in}
use Rattle.variable_records.proofs.unneeded.Goals as goal

pub returns-then-branch-gt0 : goal.returns-then-branch-gt0
unfolding unneeded_in
returns-then-branch-gt0 c = simp (lt-ltb _ _ c.if-branch-gt0.true)

pub returns : goal.returns
unfolding unneeded_in
returns c = simp (le-ltb _ _ c.if-branch-gt0.false)

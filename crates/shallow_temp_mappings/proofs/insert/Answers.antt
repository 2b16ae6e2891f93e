-- `shallow_temp_mappings::insert`: the test of the code is the test of the definition. Assumes nothing.
use borrow.Author.Tests.{le-leb, lt-leb}
use Rattle.shallow_temp_mappings.specs.Mappings.{mapped_with}
use Rattle.shallow_temp_mappings.proofs.insert.Goals as goal

pub returns-then-r-le-LAST_REGISTER : goal.returns-then-r-le-LAST_REGISTER
unfolding mapped_with
returns-then-r-le-LAST_REGISTER c = simp (le-leb _ _ c.if-r-le-LAST_REGISTER.true)

pub returns-else-r-le-LAST_REGISTER : goal.returns-else-r-le-LAST_REGISTER
unfolding mapped_with
returns-else-r-le-LAST_REGISTER c = simp (lt-leb _ _ c.if-r-le-LAST_REGISTER.false)

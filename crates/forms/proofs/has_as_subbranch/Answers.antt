-- `forms::has_as_subbranch`: each test of the code is a test of the definition. Assumes nothing.
use borrow.Author.Tests.{le-leb, lt-leb}
use Rattle.forms.proofs.has_as_subbranch.Goals as goal

pub returns-then-outer-inner : goal.returns-then-outer-inner
returns-then-outer-inner c = simp (le-leb _ _ c.if-outer-inner.true)

pub returns-else-outer-inner : goal.returns-else-outer-inner
returns-else-outer-inner c = simp (lt-leb _ _ c.if-outer-inner.false)

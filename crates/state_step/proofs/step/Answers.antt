-- `state_step::step`: each way of the code is a case of the definition. Assumes nothing.
use mathlib.Core.Path.{sym, ◌∙◌}
use Rattle.debray_allocator.specs.DebrayAllocatorLaws.{stepped-refused, stepped-accepted}
use Rattle.state_step.proofs.step.Goals as goal

pub returns-then-is_some : goal.returns-then-is_some
returns-then-is_some c = stepped-refused _ _ _ _ c.act-acted.ensures (sym c.is_some.ensures ∙ c.if-is_some.true)

pub returns : goal.returns
returns c = stepped-accepted _ _ _ _ c.act-acted.ensures (sym c.is_some.ensures ∙ c.if-is_some.false)

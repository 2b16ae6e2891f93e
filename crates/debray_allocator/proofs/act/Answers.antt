-- `debray_allocator::act`: each way of the code is a case of the definition. Assumes nothing.
use mathlib.Core.Path.{sym, ◌∙◌}
use Rattle.debray_allocator.specs.DebrayAllocatorLaws.{acted-refused, acted-carried}
use Rattle.debray_allocator.proofs.act.Goals as goal

pub returns-then-is_some : goal.returns-then-is_some
returns-then-is_some c = acted-refused _ _ _ c.refusal_before-refusal.ensures (sym c.is_some.ensures ∙ c.if-is_some.true) c.refused.ensures

pub returns : goal.returns
returns c =
    acted-carried _ _ _ _
    c.refusal_before-refusal.ensures
    (sym c.is_some.ensures ∙ c.if-is_some.false)
    c.carry_out-carried.ensures
    c.see.ensures

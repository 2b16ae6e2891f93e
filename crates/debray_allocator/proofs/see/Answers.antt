-- `debray_allocator::see`: each way of the code is a case of the definition. Assumes nothing.
use Rattle.debray_allocator.specs.DebrayAllocator.{seen_after}
use Rattle.debray_allocator.proofs.see.Goals as goal

pub returns-then-not-is_record : goal.returns-then-not-is_record
unfolding seen_after
returns-then-not-is_record c = simp (← c.is_record.ensures, c.if-not-is_record.true)

pub returns-else-not-is_record : goal.returns-else-not-is_record
unfolding seen_after
returns-else-not-is_record c = simp (← c.is_record.ensures, c.if-not-is_record.false)

-- `event_calls::malformed`: a refusal as the definition has it. Assumes nothing.
use mathlib.Core.Path.{refl}
use Rattle.debray_allocator.specs.DebrayAllocator.{refused_with}
use Rattle.event_calls.proofs.malformed.Goals as goal

pub returns : goal.returns
unfolding refused_with
returns c = refl

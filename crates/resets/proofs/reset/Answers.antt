-- `resets::reset`: the code is the definition. Assumes nothing.
use mathlib.Core.Path.{ap}
use Rattle.resets.specs.Resets.{slots_reset, whole_reset}
use Rattle.resets.proofs.reset.Goals as goal

pub returns : goal.returns
unfolding whole_reset
returns c = ap slots_reset c.reset_contents.ensures

-- `register_sets::load`: the code is the definition. Assumes nothing.
use mathlib.Core.Path.{refl}
use Rattle.register_sets.specs.RegisterSets.{set_at}
use Rattle.register_sets.proofs.load.Goals as goal

pub returns : goal.returns
unfolding set_at
returns c = refl

-- `register_sets::store`: the code is the definition. Assumes nothing.
use mathlib.Core.Path.{refl}
use Rattle.register_sets.specs.RegisterSets.{set_put}
use Rattle.register_sets.proofs.store.Goals as goal

pub returns : goal.returns
unfolding set_put
returns c = refl

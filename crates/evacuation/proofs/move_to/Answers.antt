-- `evacuation::move_to`: the code is the definition. Assumes nothing.
use Rattle.evacuation.specs.Evacuation.{moved_to}
use Rattle.evacuation.proofs.move_to.Goals as goal

pub returns : goal.returns
unfolding moved_to
returns c =
    simp (
      ← c.remove.ensures,
      ← c.insert.ensures,
      ← c.load-variable.ensures,
      ← c.set_register.ensures,
      ← c.store.ensures,
      ← c.insert-2.ensures,
      c.move_to_register.ensures,
      c.push_back.ensures,
    )

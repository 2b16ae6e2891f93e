-- `resets::place_argument`: each way of the code is a case of the definition. Assumes nothing.
use Rattle.resets.specs.Resets.{argument_placed}
use Rattle.resets.proofs.place_argument.Goals as goal

pub returns-then-awaits_register : goal.returns-then-awaits_register
unfolding argument_placed
returns-then-awaits_register c = simp (← c.awaits_register.ensures, c.if-awaits_register.true, ← c.insert.ensures, ← c.insert-then-awaits_register.ensures, ← c.load-variable.ensures, ← c.set_register.ensures, c.store.ensures)

pub returns : goal.returns
unfolding argument_placed
returns c = simp (← c.awaits_register.ensures, c.if-awaits_register.false)

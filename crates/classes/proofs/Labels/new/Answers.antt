-- `classes::Labels::new`: no parent is above its child where each is 0. Assumes nothing.
use Rattle.classes.specs.ParentsLaws.{room_falling}
use Rattle.classes.proofs.Labels.new.Goals as goal

pub invariant_of-result : goal.invariant_of-result
invariant_of-result c = room_falling

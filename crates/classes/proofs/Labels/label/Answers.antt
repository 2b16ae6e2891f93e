-- `classes::Labels::label`: from a class for each name through all pairs to the labels. Assumes nothing.
use Rattle.classes.specs.Classes.{own_labels, labelling}
use Rattle.classes.specs.ParentsLaws.{own_rooted}
use Rattle.classes.proofs.Labels.label.Goals as goal

pub returns : goal.returns
unfolding labelling
returns c = c.flatten.ensures _ (c.join_all.ensures.rooted own_labels (rw c.fill.ensures own_rooted))

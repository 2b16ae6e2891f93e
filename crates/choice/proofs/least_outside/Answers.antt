-- `choice::least_outside`: with no argument to come and nothing to avoid, the tests agree. Assumes nothing.
use mathlib.Core.Path.{refl, ap, ◌∙◌}
use Rattle.choice.specs.Choice.{least_free, least_outside}
use Rattle.choice.specs.ChoiceLaws.{first_agrees, free_outside}
use Rattle.choice.proofs.least_outside.Goals as goal

pub returns : goal.returns
unfolding least_free least_outside
returns c =
    c.least_free.ensures
    ∙ ap (least_free _) c.empty.ensures
    ∙ first_agrees _ _ (λ r. free_outside _ r refl refl) _

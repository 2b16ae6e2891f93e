-- `restricting_sets::with_use`: each way of the code is a way of the definition. Assumes nothing.
use mathlib.Core.Path.{sym, ◌∙◌}
use Rattle.restricting_sets.specs.StepLaws.{use_elsewhere, use_inserted}
use Rattle.restricting_sets.proofs.with_use.Goals as goal

pub returns-then-last_use-code : goal.returns-then-last_use-code
returns-then-last_use-code c = use_elsewhere _ _ _ _ c.register_of-reg.ensures (λ e. c.if-last_use-code.true (c.last_use.ensures ∙ e))

pub returns : goal.returns
returns c =
    c.insert.ensures
    ∙ use_inserted _ _ _ _ c.register_of-reg.ensures
    (sym c.last_use.ensures ∙ c.if-last_use-code.false)

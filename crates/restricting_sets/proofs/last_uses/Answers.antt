-- `restricting_sets::last_uses`: the registers of the uses passed are there. Assumes nothing.
use mathlib.Core.Path.{ap, ◌∙◌}
use native.Mathlib.Numerals.{add-one}
use Rattle.temp_var_data.specs.GivenLaws.{given_none}
use Rattle.restricting_sets.specs.StepLaws.{with_next, last_uses, with_all}
use Rattle.restricting_sets.proofs.last_uses.Goals as goal

pub loop-code-init : goal.loop-code-init
loop-code-init c = c.empty-registers.ensures ∙ given_none _ _

pub loop-code-preserved : goal.loop-code-preserved
loop-code-preserved c =
    let l = c.loop-code in
    rw (add-one l.code-index)
    (c.with_use-registers.ensures ∙ with_next _ _ l.code-index l.registers l.invariant c.loop-code-test.true)

pub returns : goal.returns
returns c =
    let l = c.loop-code in
    l.invariant
    ∙ with_all _ _ l.code-index c.loop-code-test.false
    ∙ ap (λ use_set. last_uses use_set c.args.chunk) c.uses_of-use_set.ensures

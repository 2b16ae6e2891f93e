-- `temp_var_data::used_registers`: the registers of the uses passed have been inserted. Assumes nothing.
use mathlib.Core.Path.{refl, ap, ap₂, ◌∙◌}
use mathlib.Core.Bool.{true}
use native.Mathlib.Numerals.{add-one}
use Rattle.bit_set.specs.BitSet.{inserted}
use Rattle.bit_set.specs.Collected.{collected}
use Rattle.temp_var_data.specs.Uses.{uses_register}
use Rattle.temp_var_data.specs.GivenLaws.{given_none, given_next, given_all}
use Rattle.temp_var_data.proofs.used_registers.Invariants.{has-register}
use Rattle.temp_var_data.proofs.used_registers.Goals as goal

pub loop-code-init : goal.loop-code-init
loop-code-init c = c.empty-registers.ensures ∙ given_none _ _

pub loop-code-preserved : goal.loop-code-preserved
loop-code-preserved c =
    let l = c.loop-code in
    rw (add-one l.code-index)
    (c.insert-registers.ensures
    ∙ ap₂ inserted l.invariant c.register_of.ensures
    ∙ given_next has-register _ l.code-index _ true c.loop-code-test.true (λ r h. refl))

pub returns : goal.returns
unfolding uses_register
returns c =
    let l = c.loop-code in
    l.invariant
    ∙ given_all has-register _ l.code-index c.loop-code-test.false
    ∙ ap (λ use_set. collected (uses_register use_set)) c.uses_of-use_set.ensures

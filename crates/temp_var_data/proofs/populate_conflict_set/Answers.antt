-- `temp_var_data::populate_conflict_set`: the registers of the uses passed have been removed. Assumes nothing.
use mathlib.Core.Path.{ap, ap₂, ◌∙◌}
use native.Mathlib.Numerals.{add-one}
use native.Mathlib.Omega.{arith}
use lib.ListN.{length}
use Rattle.bit_set.specs.BitSet.{removed}
use Rattle.temp_var_data.specs.Uses.{conflict_of}
use Rattle.temp_var_data.specs.UsesLaws.{uses_le}
use Rattle.temp_var_data.proofs.ConflictLaws.{without-none, without-next, without_all}
use Rattle.temp_var_data.proofs.populate_conflict_set.Goals as goal

pub overflow_cast-use_set : goal.overflow_cast-use_set
overflow_cast-use_set c =
    let a = c.args in
    omega (arith, ap length c.uses_of-use_set.ensures, uses_le a.use_sets.now a.use_counts.now a.v)

pub loop-code-init : goal.loop-code-init
loop-code-init c = c.up_to-conflict_set.ensures ∙ without-none _

pub loop-code-preserved : goal.loop-code-preserved
loop-code-preserved c =
    let l = c.loop-code in
    rw (add-one l.code-index)
    (c.remove-conflict_set.ensures
    ∙ ap₂ removed l.invariant c.register_of.ensures
    ∙ without-next _ l.code-index c.loop-code-test.true)

pub returns : goal.returns
returns c =
    let l = c.loop-code in
    l.invariant ∙ without_all _ l.code-index c.loop-code-test.false ∙ ap conflict_of c.uses_of-use_set.ensures

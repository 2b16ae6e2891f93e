-- `temp_var_data::up_to`: the numbers below the one at hand have been inserted. Assumes nothing.
use Prim.Native.Nat.{ℕ}
use mathlib.Core.Path.{ap, ◌∙◌}
use native.Mathlib.Omega.{arith}
use Rattle.bit_set.specs.BitSet.{inserted}
use Rattle.temp_var_data.proofs.ConflictLaws.{up_to_start, up_to-next, up_to-end}
use Rattle.temp_var_data.proofs.up_to.Goals as goal

pub loop-n-init : goal.loop-n-init
loop-n-init c = (omega arith, c.empty-numbers.ensures ∙ up_to_start)

pub loop-n-preserved : goal.loop-n-preserved
loop-n-preserved c =
    let l = c.loop-n in
    (omega arith, c.insert-numbers.ensures ∙ ap (λ (s : ℕ). inserted s l.n) l.invariant.1 ∙ up_to-next l.n l.auto.n)

pub returns : goal.returns
returns c =
    let l = c.loop-n in
    l.invariant.1 ∙ up_to-end _ l.n c.loop-n-test.false l.invariant.0

-- `restricting_sets::no_use_of`: the uses of the variables passed have been heeded. Assumes nothing.
use mathlib.Core.Path.{sym, ap, ap₂, ◌∙◌}
use Rattle.std.specs.Prelude.{is_some}
use native.Mathlib.Numerals.{add-one}
use native.Mathlib.Omega.{arith}
use Rattle.restricting_sets.specs.StepLaws.{with_last, below_none, below_permanent, below-temporary}
use Rattle.restricting_sets.specs.StepLaws.{below_all}
use Rattle.restricting_sets.proofs.no_use_of.Goals.{in-Some-chunk_of, in_default-chunk_of}
use Rattle.restricting_sets.specs.Restricting.{is_temporary, no_use_of}
use Rattle.restricting_sets.proofs.no_use_of.Goals as goal

pub returns-in_default : goal.returns-in_default
unfolding no_use_of
returns-in_default c = simp (← c.chunk_of.ensures, c.in_default.is)

pub loop-u-init : goal.loop-u-init
loop-u-init c = below_none _ _ _ _ _ _ (omega arith)

pub loop-u-preserved : goal.loop-u-preserved
unfolding is_temporary
loop-u-preserved c =
    let l = c.loop-u in
    let v = c.args.v in
    rw (add-one l.u)
    (elim c.match-chunk_of-2.branch [
      | in-Some-chunk_of w ↦ w.set-is ∙ w.with_uses-set.ensures ∙ ap₂ (λ last own. with_last l.set last own l.u v) w.last_uses-last.ensures c.used_registers-own.ensures ∙ below-temporary _ _ _ v _ _ l.u l.set l.invariant (ap is_some (sym c.chunk_of-in-loop-u.ensures ∙ w.in-Some-chunk_of.is))
      | in_default-chunk_of w ↦ w.set-is ∙ below_permanent _ _ _ v _ _ l.u l.set l.invariant (ap is_some (sym c.chunk_of-in-loop-u.ensures ∙ w.in_default-chunk_of.is))
    ])

pub returns : goal.returns
returns c =
    let l = c.loop-u in
    l.invariant ∙ below_all _ _ _ _ _ _ l.u (omega arith) (sym c.chunk_of.ensures ∙ c.in-Some.is)

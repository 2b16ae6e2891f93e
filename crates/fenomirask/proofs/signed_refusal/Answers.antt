-- `fenomirask::signed_refusal`: the sum is signed, then taken from 0.
-- Assumes nothing.
use Prim.Native.Nat.{ℕ, ◌+◌, ◌*◌}
use mathlib.Core.Path.{ap, subst, sym, ◌∙◌}
use native.Mathlib.Omega.{arith}
use lib.IntN.{pos, neg_ℤ}
use mir.Syntax.{w64}
use mir.Val.{SFits}
use Rattle.refusals.specs.RefusalsLaws.{numbered}
use Rattle.fenomirask.proofs.Words.{negated_fits, read_back, told-negated}
use Rattle.fenomirask.proofs.signed_refusal.Goals as goal

pub overflow_sub-result : goal.overflow_sub-result
overflow_sub-result c =
    let told = 16 * c.args.refused.line + c.number.result in
    subst (SFits w64) (sym (told-negated told c.signed-told.type_inv c.signed-told.ensures)) (negated_fits told (omega (arith, c.number.ensures, (numbered c.args.refused.refusal).1)))

pub returns : goal.returns
returns c =
    let told = 16 * c.args.refused.line + c.number.result in
    let negated = told-negated told c.signed-told.type_inv c.signed-told.ensures in
    let fits : SFits w64 _ = subst (SFits w64) (sym negated) (negated_fits told (omega (arith, c.number.ensures, (numbered c.args.refused.refusal).1))) in
    read_back fits.sfits negated ∙ ap (λ (n : ℕ). neg_ℤ (pos (16 * c.args.refused.line + n))) c.number.ensures

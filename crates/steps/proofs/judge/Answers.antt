-- `steps::judge`: an accepted line is not one too many, and a refused one keeps the order. Assumes nothing.
use Rattle.std.proofs.Common.{sym, ◌∙◌}
use Rattle.steps.specs.OrderLaws.{judged_refusal, line-has_room}
use Rattle.steps.proofs.judge.Goals as goal

pub following-requires : goal.following-requires
following-requires c =
    let a = c.args in
    line-has_room a.order a.line (judged_refusal a.order a.line ∙ sym c.refusal_by-refusal.ensures ∙ c.in-None.is)

-- `check_sheets::finish`: the last part is refused, the goal steps without a `call` are, or the verdict is given. Assumes nothing.
use Rattle.check_sheets.specs.RunningLaws.{last_left, last_uncalled, last-judged}
use Rattle.check_sheets.proofs.finish.Goals as goal

pub returns-then-left-gt0 : goal.returns-then-left-gt0
returns-then-left-gt0 c = last_left _ _ _ _ c.if-left-gt0.true

pub returns-in-Some : goal.returns-in-Some
returns-in-Some c =
    last_uncalled _ _ _ _ c.if-left-gt0.false c.refusal_at_end.ensures c.in-Some.is c.saturating_sub.ensures

pub returns-in-None : goal.returns-in-None
returns-in-None c =
    last-judged _ _ _ _ c.if-left-gt0.false c.refusal_at_end.ensures c.in-None.is c.is_right.ensures

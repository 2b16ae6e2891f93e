-- `fenomirask::step`: the answer fits, since its count stays within the lent bytes and its line is 1 at most.
-- Assumes nothing.
use mathlib.Core.Path.{ap, ◌∙◌}
use native.Mathlib.Omega.{arith}
use Rattle.event_calls.specs.declared.Called.{Called}
use Rattle.answered.specs.Answered.{number_of}
use Rattle.fenomirask.specs.NumbersLaws.{call_fits}
use Rattle.fenomirask.proofs.Words.{read_back}
use Rattle.fenomirask.proofs.step.Goals as goal

pub number_of-number-requires : goal.number_of-number-requires
number_of-number-requires c =
    call_fits c.args.state _ (omega (arith, c.well_formed.1.1.0.1)) c.args.line.now
    (ap (λ (k : Called). k.answered) c.call-called.ensures.value)

pub returns : goal.returns
returns c =
    let call = c.call-called.ensures in (
      read_back c.number_of-number.type_inv (c.number_of-number.ensures ∙ ap (λ (k : Called). number_of k.answered) call.value),
      ap (λ (k : Called). k.state) call.value,
      call.out_after,
    )

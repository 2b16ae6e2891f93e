-- `fenomirask::fenomirask_bundle`: the answer fits, since its count stays within the lent bytes and its line within the sheet.
-- Assumes nothing.
use mathlib.Core.Path.{ap, ◌∙◌}
use native.Mathlib.Omega.{arith}
use Rattle.answered.specs.Answered.{number_of}
use Rattle.fenomirask.specs.NumbersLaws.{bundle-fits}
use Rattle.fenomirask.proofs.Words.{read_back}
use Rattle.fenomirask.proofs.fenomirask_bundle.Goals as goal

pub number_of-requires : goal.number_of-requires
number_of-requires c =
    bundle-fits c.args.sheet.now _ (omega (arith, c.well_formed.1.0.1)) c.answer-answered.ensures.value

pub returns : goal.returns
returns c =
    let answered = c.answer-answered.ensures in
    (record { value = read_back c.number_of.type_inv (c.number_of.ensures ∙ ap number_of answered.value); out_after = answered.out_after })

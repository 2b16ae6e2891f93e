-- `fenomirask::fenomirask_check`: the answer fits, since its count stays within the lent bytes and its line within the sheet.
-- Assumes nothing.
use mathlib.Core.Path.{ap, ◌∙◌}
use native.Mathlib.Omega.{arith}
use Rattle.answered.specs.Answered.{number_of}
use Rattle.check_sheets.specs.TellsLaws.{by-verdict_so}
use Rattle.fenomirask.specs.NumbersLaws.{check_fits}
use Rattle.fenomirask.proofs.Words.{read_back}
use Rattle.fenomirask.proofs.fenomirask_check.Goals as goal

pub number_of-requires : goal.number_of-requires
number_of-requires c =
    check_fits c.args.sheet.now _ (omega (arith, c.well_formed.1.0.1)) c.answer-answered.ensures.right c.answer-answered.ensures.holds.0

pub returns : goal.returns
returns c =
    by-verdict_so
    c.answer-answered.ensures
    (λ right answered. (read_back c.number_of.type_inv (c.number_of.ensures ∙ ap number_of answered.0), answered.1))

-- `fenomirask::last`: the answer fits, since its count stays within the lent bytes and it tells no line.
-- Assumes nothing.
use mathlib.Core.Path.{ap, ◌∙◌}
use native.Mathlib.Omega.{arith}
use Rattle.answered.specs.Answered.{number_of}
use Rattle.fenomirask.specs.NumbersLaws.{last_fits}
use Rattle.fenomirask.proofs.Words.{read_back}
use Rattle.fenomirask.proofs.last.Goals as goal

pub number_of-requires : goal.number_of-requires
number_of-requires c =
    last_fits c.args.state _ (omega (arith, c.well_formed.1.0.1)) c.put_last-answered.ensures.value

pub returns : goal.returns
returns c =
    let answered = c.put_last-answered.ensures in
    (read_back c.number_of.type_inv (c.number_of.ensures ∙ ap number_of answered.value), answered.out_after)

-- `fenomirask::number_of`: each kind of answer has a function of its own.
-- Assumes nothing.
use mathlib.Core.Path.{ap, sym, subst, ◌∙◌}
use Rattle.answered.specs.Answered.{number_of}
use Rattle.fenomirask.specs.Numbers.{Fits}
use Rattle.fenomirask.proofs.Words.{read_back}
use Rattle.fenomirask.proofs.number_of.Goals as goal

pub signed-requires : goal.signed-requires
signed-requires c = subst Fits c.in-Ok.is c.requires

pub signed_refusal-requires : goal.signed_refusal-requires
signed_refusal-requires c = subst Fits c.in-Err.is c.requires

pub returns-in-Ok : goal.returns-in-Ok
returns-in-Ok c = read_back c.signed.type_inv (c.signed.ensures ∙ sym (ap number_of c.in-Ok.is))

pub returns-in-Err : goal.returns-in-Err
returns-in-Err c =
    read_back c.signed_refusal.type_inv
    (c.signed_refusal.ensures ∙ sym (ap number_of c.in-Err.is))

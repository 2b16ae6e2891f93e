-- `restricting_sets::conflict_of`: a temporary's set is made, another's kept. Assumes nothing.
use mathlib.Core.Path.{sym, ◌∙◌}
use Rattle.restricting_sets.specs.StepLaws.{conflict_kept, conflict_made}
use Rattle.restricting_sets.proofs.conflict_of.Goals as goal

pub returns-then-not-is_temporary : goal.returns-then-not-is_temporary
returns-then-not-is_temporary c = sym (conflict_kept _ _ _ _ _ (sym c.is_temporary.ensures ∙ c.if-not-is_temporary.true))

pub returns : goal.returns
returns c =
    let temporary = sym c.is_temporary.ensures ∙ c.if-not-is_temporary.false in
    c.populate_conflict_set.ensures ∙ sym (conflict_made _ _ _ _ _ temporary)

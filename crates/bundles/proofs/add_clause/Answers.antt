-- `bundles::add_clause`: the text that its lines print, or over it the line of its refusal. Assumes nothing.
use borrow.Author.Rules.{rules}
use Rattle.bundles.specs.RunningLaws.{line_small, clause_refused, clause_printed}
use Rattle.bundles.proofs.add_clause.Goals as goal

-- a pair as the two clauses
both : {A B : Type 0} → A × B → record { value : A; fronts : B }
both w = record { value = w.0; fronts = w.1 }

pub overflow_cast-run : goal.overflow_cast-run
overflow_cast-run c = search (rules, line_small _ c.requires c.run_sheet-run.ensures.value)

pub returns-in-Some : goal.returns-in-Some
returns-in-Some c = both (
    clause_refused _ c.requires c.run_sheet-run.ensures.value _ _ c.in-Some.is c.run_sheet-run.ensures.out_after c.add_refusal.ensures.value c.add_refusal.ensures.out_after
    )

pub returns-in-None : goal.returns-in-None
returns-in-None c = both (
    clause_printed _ c.requires c.run_sheet-run.ensures.value _ _ c.in-None.is c.run_sheet-run.ensures.out_after
    )

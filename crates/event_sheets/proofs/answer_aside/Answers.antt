-- `event_sheets::answer_aside`: the run first, the room last; each way of the code is a case of the definition. Assumes nothing.
use mathlib.Core.Path.{ap}
use borrow.Author.Rules.{rules}
use Rattle.event_sheets.specs.AnswerLaws.{run-refused, run_longer, run-printed, run_copied, kept_aside, sheet-answered}
use Rattle.event_sheets.proofs.answer_aside.Goals as goal

-- a pair as the two clauses
both : {A B : Type 0} → A × B → record { value : A; out_after : B }
both w = record { value = w.0; out_after = w.1 }

pub returns-in-Some : goal.returns-in-Some
returns-in-Some c = both (
    sheet-answered _ _ (run-refused _ _ c.run_sheet-run.ensures.value c.in-Some.is)
    )

pub returns-then-out-run : goal.returns-then-out-run
returns-then-out-run c = both (
    sheet-answered _ _ (run_longer _ _ c.run_sheet-run.ensures.value c.in_default.is c.if-out-run.true)
    )

pub returns-then-run-text : goal.returns-then-run-text
returns-then-run-text c = both (
    let told = c.run_sheet-run.ensures.value in
    let whole = kept_aside _ _ (ap (λ r. r.length) told) (search (rules, c.if-run-text.true)) c.run_sheet-run.ensures.out_after c.part_before.ensures in
    sheet-answered _ _ (run_copied _ _ told c.in_default.is c.if-out-run.false whole c.put_word.ensures.bytes)
    )

pub returns : goal.returns
returns c = both (
    sheet-answered _ _ (run-printed _ _ c.run_sheet-run.ensures.value c.in_default.is c.if-out-run.false c.run_sheet.ensures.out_after)
    )

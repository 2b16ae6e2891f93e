-- `event_sheets::finish`: what stands behind the last line feed is refused, or the last line is added. Assumes nothing.
use borrow.Author.Rules.{rules}
use Rattle.answers.specs.AnswersLaws.{end_short}
use Rattle.event_sheets.specs.RunningLaws.{told-refused, told-ended}
use Rattle.event_sheets.proofs.finish.Goals as goal

-- a pair as the two clauses
both : {A B : Type 0} → A × B → record { value : A; out_after : B }
both w = record { value = w.0; out_after = w.1 }

pub returns-then-left-gt0 : goal.returns-then-left-gt0
returns-then-left-gt0 c = both (
    told-refused _ _ _ _ _ _ c.if-left-gt0.true
    )

pub overflow_add-result : goal.overflow_add-result
overflow_add-result c =
    search (rules, c.add_end-adding.ensures.counted, end_short c.max_reg_allocated-registers.result c.num_perm_vars-slots.result)

pub returns : goal.returns
returns c = both (
    told-ended _ _ _ _ _ _
    c.if-left-gt0.false
    c.max_reg_allocated-registers.ensures
    c.num_perm_vars-slots.ensures
    c.add_end-adding.ensures
    )

-- `event_calls::put_last`: the state first, the room last; each way of the code is a case of the definition. Assumes nothing.
use borrow.Author.Rules.{rules}
use mathlib.Core.Path.{sym, ◌∙◌}
use Rattle.event_calls.specs.CallLaws.{last_invalid, last_longer, last_written}
use Rattle.event_calls.proofs.put_last.Goals as goal

-- a pair as the two clauses
both : {A B : Type 0} → A × B → record { value : A; out_after : B }
both w = record { value = w.0; out_after = w.1 }

pub returns-then-not-is_valid_state : goal.returns-then-not-is_valid_state
returns-then-not-is_valid_state c = both (
    last_invalid _ _ (sym c.is_valid_state.ensures ∙ c.if-not-is_valid_state.true)
    )

pub returns-then-out-count : goal.returns-then-out-count
returns-then-out-count c = both (
    last_longer _ _
    (sym c.is_valid_state.ensures ∙ c.if-not-is_valid_state.false)
    c.max_reg_allocated-registers.ensures
    c.num_perm_vars-slots.ensures
    (search rules)
    c.put_end-count.ensures
    c.if-out-count.true
    )

pub returns : goal.returns
returns c = both (
    last_written _ _
    (sym c.is_valid_state.ensures ∙ c.if-not-is_valid_state.false)
    c.max_reg_allocated-registers.ensures
    c.num_perm_vars-slots.ensures
    (search rules)
    c.put_end-count.ensures
    c.if-out-count.false
    c.part_before.ensures
    c.put_word.ensures
    )

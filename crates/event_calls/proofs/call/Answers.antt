-- `event_calls::call`: the state first, then the length and the line, the room last; each way of the code is a case of the definition.
-- Assumes nothing.
use borrow.Author.Rules.{rules}
use mathlib.Core.Path.{refl, sym, ◌∙◌}
use Rattle.event_calls.specs.CallLaws.{call_invalid, call_long, call-refused, call_longer, call-written}
use Rattle.event_calls.proofs.call.Goals as goal

-- a pair as the two clauses
both : {A B : Type 0} → A × B → record { value : A; out_after : B }
both w = record { value = w.0; out_after = w.1 }

pub returns-then-not-is_valid_state : goal.returns-then-not-is_valid_state
returns-then-not-is_valid_state c = both (
    call_invalid _ _ _
    (sym c.is_valid_state.ensures ∙ c.if-not-is_valid_state.true)
    c.refused.ensures
    )

pub returns-then-line-gt-SHEET_BYTES : goal.returns-then-line-gt-SHEET_BYTES
returns-then-line-gt-SHEET_BYTES c = both (
    call_long _ _ _
    (sym c.is_valid_state.ensures ∙ c.if-not-is_valid_state.false)
    c.if-line-gt-SHEET_BYTES.true
    c.refused-then-line-gt-SHEET_BYTES.ensures
    )

pub step_bytes-answer-requires : goal.step_bytes-answer-requires
step_bytes-answer-requires c = c.if-line-gt-SHEET_BYTES.false

pub returns-in-Some : goal.returns-in-Some
returns-in-Some c = both (
    call-refused _ _ _
    (sym c.is_valid_state.ensures ∙ c.if-not-is_valid_state.false)
    c.if-line-gt-SHEET_BYTES.false
    c.step_bytes-answer.ensures
    c.in-Some.is
    c.refused-in-Some.ensures
    )

pub returns-then-out-length : goal.returns-then-out-length
returns-then-out-length c = both (
    call_longer _ _ _
    (sym c.is_valid_state.ensures ∙ c.if-not-is_valid_state.false)
    c.if-line-gt-SHEET_BYTES.false
    c.step_bytes-answer.ensures
    c.in_default.is
    (search rules)
    c.put_answer-length.ensures
    c.if-out-length.true
    c.refused-then-out-length.ensures
    )

pub returns : goal.returns
returns c = both (
    call-written _ _ _
    (sym c.is_valid_state.ensures ∙ c.if-not-is_valid_state.false)
    c.if-line-gt-SHEET_BYTES.false
    c.step_bytes-answer.ensures
    c.in_default.is
    (search rules)
    c.put_answer-length.ensures
    c.if-out-length.false
    c.part_before.ensures
    c.put_word.ensures
    refl
    )

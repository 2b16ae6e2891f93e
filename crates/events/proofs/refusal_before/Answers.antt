-- `events::refusal_before`: each way of the code is a case of the definition. Assumes nothing.
use Rattle.std.proofs.Common.{sym, ◌∙◌}
use Rattle.std.proofs.lemmas.Bool.{false≢true}
use Rattle.events.specs.Events.{refusal_before}
use Rattle.events.proofs.refusal_before.Goals as goal
use Rattle.events.proofs.refusal_before.Goals.{then-is_record, else-is_record}

pub returns-in-true : goal.returns-in-true
unfolding refusal_before
returns-in-true c =
    elim c.if-is_record.branch [
      | then-is_record w ↦ simp (← c.is_record.ensures, w.if-is_record.true, sym w.too_late-is ∙ c.in-true.is)
      | else-is_record w ↦ absurd (false≢true (sym (w.too_late-is ∙ w.if-is_record.false) ∙ c.in-true.is))
    ]

pub returns-in-false : goal.returns-in-false
unfolding refusal_before
returns-in-false c =
    elim c.if-is_record.branch [
      | then-is_record w ↦ simp (← c.is_record.ensures, w.if-is_record.true, sym w.too_late-is ∙ c.in-false.is, c.refusal_by_size.ensures)
      | else-is_record w ↦ simp (← c.is_record.ensures, w.if-is_record.false, c.refusal_by_size.ensures)
    ]

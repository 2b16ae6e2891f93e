-- `event_fields::target_of`: a field is one of the letters exactly if that is its only byte. Assumes nothing.
use Rattle.std.proofs.Common.{arith}
use Rattle.notation.specs.Text.{byte}
use Rattle.event_fields.specs.EventFields.{target_of}
use Rattle.words.specs.WordsLaws.{is_letter, not_letter}
use Rattle.event_fields.proofs.target_of.Goals as goal

pub returns-in-f : goal.returns-in-f
unfolding target_of
returns-in-f c = simp (is_letter (byte "f") c.args.field.now (omega arith) (omega arith))

pub returns-in-q : goal.returns-in-q
unfolding target_of
returns-in-q c =
    let s = c.args.field.now in
    simp (not_letter (byte "f") s (λ l e. omega arith), is_letter (byte "q") s (omega arith) (omega arith))

pub returns-in_default : goal.returns-in_default
unfolding target_of
returns-in_default c =
    let s = c.args.field.now in
    simp (not_letter (byte "f") s (λ l e. omega arith), not_letter (byte "q") s (λ l e. omega arith))

pub returns-in_default-2 : goal.returns-in_default-2
unfolding target_of
returns-in_default-2 c =
    let s = c.args.field.now in
    simp (not_letter (byte "f") s (λ l e. omega arith), not_letter (byte "q") s (λ l e. omega arith))

pub returns-in_default-3 : goal.returns-in_default-3
unfolding target_of
returns-in_default-3 c =
    let s = c.args.field.now in
    simp (not_letter (byte "f") s (λ l e. omega arith), not_letter (byte "q") s (λ l e. omega arith))

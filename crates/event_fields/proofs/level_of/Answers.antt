-- `event_fields::level_of`: a field is one of the letters exactly if that is its only byte. Assumes nothing.
use Rattle.std.proofs.Common.{arith}
use Rattle.notation.specs.Text.{byte}
use Rattle.event_fields.specs.EventFields.{level_of}
use Rattle.words.specs.WordsLaws.{is_letter, not_letter}
use Rattle.event_fields.proofs.level_of.Goals as goal

pub returns-in-r : goal.returns-in-r
unfolding level_of
returns-in-r c = simp (is_letter (byte "r") c.args.field.now (omega arith) (omega arith))

pub returns-in-s : goal.returns-in-s
unfolding level_of
returns-in-s c =
    let s = c.args.field.now in
    simp (not_letter (byte "r") s (λ l e. omega arith), is_letter (byte "s") s (omega arith) (omega arith))

pub returns-in-d : goal.returns-in-d
unfolding level_of
returns-in-d c =
    let s = c.args.field.now in
    simp (not_letter (byte "r") s (λ l e. omega arith), not_letter (byte "s") s (λ l e. omega arith), is_letter (byte "d") s (omega arith) (omega arith))

pub returns-in_default : goal.returns-in_default
unfolding level_of
returns-in_default c =
    let s = c.args.field.now in
    simp (not_letter (byte "r") s (λ l e. omega arith), not_letter (byte "s") s (λ l e. omega arith), not_letter (byte "d") s (λ l e. omega arith))

pub returns-in_default-2 : goal.returns-in_default-2
unfolding level_of
returns-in_default-2 c =
    let s = c.args.field.now in
    simp (not_letter (byte "r") s (λ l e. omega arith), not_letter (byte "s") s (λ l e. omega arith), not_letter (byte "d") s (λ l e. omega arith))

pub returns-in_default-3 : goal.returns-in_default-3
unfolding level_of
returns-in_default-3 c =
    let s = c.args.field.now in
    simp (not_letter (byte "r") s (λ l e. omega arith), not_letter (byte "s") s (λ l e. omega arith), not_letter (byte "d") s (λ l e. omega arith))

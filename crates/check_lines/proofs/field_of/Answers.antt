-- `check_lines::field_of`: each way of the code is a case of the definition. Assumes nothing.
use Prim.Native.Nat.{◌<◌}
use Rattle.std.specs.Prelude.{◌≡◌, false, length, take, option_map}
use Rattle.std.proofs.Common.{sym, ◌∙◌, ap, arith, rules}
use Rattle.notation.specs.Text.{byte, bytes}
use Rattle.words.specs.Words.{same}
use Rattle.words.specs.WordsLaws.{starts_with, starts_not, behind_first}
use Rattle.numbers.specs.Numbers.{number_of}
use Rattle.registers.specs.declared.RegType.TheVariants.{Temp, Perm}
use Rattle.check_lines.specs.declared.Field.TheVariants.{Number as of_number, Place as of_place}
use Rattle.check_lines.specs.Reading.{field_of}
use Rattle.check_lines.proofs.field_of.Goals as goal
use Rattle.check_lines.proofs.field_of.Goals.{in_default-via-then-field-lt1, in_default-via-else-field-lt1+in_default-1}

pub returns-in-120 : goal.returns-in-120
unfolding field_of
returns-in-120 c =
    let s = c.args.field.now in
    let made : c.map.result ≡ option_map (λ r. of_place (Temp r)) c.read.result = search rules in
    made
    ∙ ap (option_map (λ r. of_place (Temp r))) (c.read.ensures ∙ ap number_of (behind_first s))
    ∙ sym (simp (starts_with (byte "x") s (omega arith) (omega arith)))

pub returns-in-121 : goal.returns-in-121
unfolding field_of
returns-in-121 c =
    let s = c.args.field.now in
    let made : c.map-in-121.result ≡ option_map (λ slot. of_place (Perm slot)) c.read-in-121.result = search rules in
    made
    ∙ ap (option_map (λ slot. of_place (Perm slot))) (c.read-in-121.ensures ∙ ap number_of (behind_first s))
    ∙ sym (simp (starts_not (byte "x") s (λ l e. omega arith), starts_with (byte "y") s (omega arith) (omega arith)))

pub returns-in_default : goal.returns-in_default
unfolding field_of
returns-in_default c =
    let s = c.args.field.now in
    let no_x : same (take 1 s) (bytes "x") ≡ false =
    starts_not (byte "x") s (elim c.in_default.branch [
      | in_default-via-then-field-lt1 w ↦ λ l e. (let none : length s < 1 = search rules in omega arith)
      | in_default-via-else-field-lt1+in_default-1 w ↦ λ l e. omega arith
    ])
    in
    let no_y : same (take 1 s) (bytes "y") ≡ false =
    starts_not (byte "y") s (elim c.in_default.branch [
      | in_default-via-then-field-lt1 w ↦ λ l e. (let none : length s < 1 = search rules in omega arith)
      | in_default-via-else-field-lt1+in_default-1 w ↦ λ l e. omega arith
    ])
    in
    let made : c.map-in_default.result ≡ option_map of_number c.read-in_default.result = search rules in
    made ∙ ap (option_map of_number) c.read-in_default.ensures ∙ sym (simp (no_x, no_y))

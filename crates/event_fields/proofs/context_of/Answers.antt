-- `event_fields::context_of`: each way of the code is a case of the definition. Assumes nothing.
use Rattle.std.specs.Prelude.{◌≡◌, true, false, take, option_map}
use Rattle.std.proofs.Common.{sym, ◌∙◌, ap, arith, rules}
use Rattle.notation.specs.Text.{byte, bytes}
use Rattle.words.specs.Words.{same}
use Rattle.numbers.specs.Numbers.{number_of}
use Rattle.forms.specs.declared.GenContext.TheVariants.{Mid, Last}
use Rattle.event_fields.specs.EventFields.{context_of}
use Rattle.words.specs.WordsLaws.{is_letter, not_letter, starts_with, starts_not, behind_first}
use Rattle.event_fields.proofs.context_of.Goals as goal
use Rattle.event_fields.proofs.context_of.Goals.{then-field-lt2+in-109-1, else-field-lt2+in-109-1, then-field-lt2+in-108-1, else-field-lt2+in-108-1}

pub returns-in-h : goal.returns-in-h
unfolding context_of
returns-in-h c = simp (is_letter (byte "h") c.args.field.now (omega arith) (omega arith))

pub returns-in-109 : goal.returns-in-109
unfolding context_of
returns-in-109 c =
    let s = c.args.field.now in
    let whole : same s (bytes "h") ≡ false =
    not_letter (byte "h") s (elim c.in-109-1.branch [ then-field-lt2+in-109-1 w ↦ λ l e. omega arith | else-field-lt2+in-109-1 w ↦ λ l e. omega arith ])
    in
    let first : same (take 1 s) (bytes "m") ≡ true =
    elim c.in-109-1.branch [
      | then-field-lt2+in-109-1 w ↦ starts_with (byte "m") s (search rules) (omega arith)
      | else-field-lt2+in-109-1 w ↦ starts_with (byte "m") s (search rules) (omega arith)
    ]
    in
    let made : c.map.result ≡ option_map Mid c.read.result = search rules in
    made ∙ ap (option_map Mid) (c.read.ensures ∙ ap number_of (behind_first s)) ∙ sym (simp (whole, first))

pub returns-in-108 : goal.returns-in-108
unfolding context_of
returns-in-108 c =
    let s = c.args.field.now in
    let whole : same s (bytes "h") ≡ false =
    not_letter (byte "h") s (elim c.in-108-1.branch [ then-field-lt2+in-108-1 w ↦ λ l e. omega arith | else-field-lt2+in-108-1 w ↦ λ l e. omega arith ])
    in
    let other : same (take 1 s) (bytes "m") ≡ false =
    starts_not (byte "m") s (elim c.in-108-1.branch [ then-field-lt2+in-108-1 w ↦ λ l e. omega arith | else-field-lt2+in-108-1 w ↦ λ l e. omega arith ])
    in
    let first : same (take 1 s) (bytes "l") ≡ true =
    elim c.in-108-1.branch [
      | then-field-lt2+in-108-1 w ↦ starts_with (byte "l") s (search rules) (omega arith)
      | else-field-lt2+in-108-1 w ↦ starts_with (byte "l") s (search rules) (omega arith)
    ]
    in
    let made : c.map-in-108.result ≡ option_map Last c.read-in-108.result = search rules in
    made ∙ ap (option_map Last) (c.read-in-108.ensures ∙ ap number_of (behind_first s)) ∙ sym (simp (whole, other, first))

pub returns-in_default : goal.returns-in_default
unfolding context_of
returns-in_default c =
    let s = c.args.field.now in
    simp (not_letter (byte "h") s (λ l e. omega arith), starts_not (byte "m") s (λ l e. omega arith), starts_not (byte "l") s (λ l e. omega arith))

pub returns-in_default-2 : goal.returns-in_default-2
unfolding context_of
returns-in_default-2 c =
    let s = c.args.field.now in
    simp (not_letter (byte "h") s (λ l e. omega arith), starts_not (byte "m") s (λ l e. omega arith), starts_not (byte "l") s (λ l e. omega arith))

pub returns-in_default-3 : goal.returns-in_default-3
unfolding context_of
returns-in_default-3 c =
    let s = c.args.field.now in
    simp (not_letter (byte "h") s (λ l e. omega arith), starts_not (byte "m") s (λ l e. omega arith), starts_not (byte "l") s (λ l e. omega arith))

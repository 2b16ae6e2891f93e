-- `event_lines::read_uses`: the field that is left, alone, is `-` or a list. Assumes nothing.
use Prim.Native.Nat.{ℕ, ◌-◌}
use mathlib.Core.Path.{◌≡◌, ap, sym, ◌∙◌}
use mathlib.Core.List.{List}
use lib.ListN.{length, take, drop}
use Rattle.split.specs.Split.{tab}
use Rattle.fields.specs.Fields.{field_end}
use Rattle.words.specs.Words.{same}
use Rattle.notation.specs.Text.{bytes}
use Rattle.event_lines.specs.ReadLaws.{put-none, uses-none, uses-none-list, uses-some, uses-some-list, uses-other, uses-other-list}
use Rattle.event_lines.proofs.read_uses.Goals as goal

pub returns-then-end-rest : goal.returns-then-end-rest
returns-then-end-rest c =
    let a = c.args in
    let rest = a.rest.now in
    let not_last : (field_end tab rest ≡ length rest → ⊥) = λ whole. c.if-end-rest.true (c.end_of_field-end.ensures ∙ whole) in
    (record { value = sym (uses-other rest not_last); list_after = rw (uses-other-list rest not_last) (sym (put-none a.list.now 0)) })

pub returns-then-is : goal.returns-then-is
returns-then-is c =
    let a = c.args in
    let rest = a.rest.now in
    let ends = c.end_of_field-end.ensures in
    let whole = sym ends ∙ c.if-end-rest.false in
    let part = c.field.ensures ∙ ap (λ (k : ℕ). take (k - 1) (drop 1 rest)) ends in
    let dash = sym (ap (λ (s : List ℕ). same s (bytes "-")) part) ∙ sym c.is.ensures ∙ c.if-is.true in
    (record { value = sym (uses-none rest whole dash); list_after = rw (uses-none-list rest whole dash) (sym (put-none a.list.now 0)) })

pub returns : goal.returns
returns c =
    let a = c.args in
    let rest = a.rest.now in
    let ends = c.end_of_field-end.ensures in
    let whole = sym ends ∙ c.if-end-rest.false in
    let part = c.field.ensures ∙ ap (λ (k : ℕ). take (k - 1) (drop 1 rest)) ends in
    let other = sym (ap (λ (s : List ℕ). same s (bytes "-")) part) ∙ sym c.is.ensures ∙ c.if-is.false in
    (record { value = c.read_list.ensures.value ∙ sym (uses-some rest whole other); list_after = rw (uses-some-list rest whole other) c.read_list.ensures.list_after })

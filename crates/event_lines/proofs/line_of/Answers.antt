-- `event_lines::line_of`: the word's number leads to the reading that the definition names. Assumes nothing.
use mathlib.Core.Path.{ap, sym, ◌∙◌}
use native.Mathlib.Omega.{arith}
use Rattle.split.specs.Split.{tab}
use Rattle.fields.specs.Fields.{fields_left}
use Rattle.event_lines.specs.ReadLaws.{said_unknown, said_bare, said_one, said_two, said_three, said_mark, said_list, said_past, put_no_entries}
use Rattle.event_lines.specs.Reading.{with_one, with_two}
use Rattle.event_lines.proofs.line_of.Goals as goal

pub returns-in-1-to-6 : goal.returns-in-1-to-6
returns-in-1-to-6 c =
    let a = c.args in
    let fields = fields_left tab a.rest.now in (record { value = c.bare_line.ensures ∙ sym (said_bare a.code fields (omega arith)); list_after = put_no_entries a.code fields a.list.now (λ l. omega arith) })

pub returns-in_err-one_number-in-7-to-12 : goal.returns-in_err-one_number-in-7-to-12
returns-in_err-one_number-in-7-to-12 c =
    let a = c.args in
    let fields = fields_left tab a.rest.now in
    let none = c.in_err-one_number-in-7-to-12.ensures in (record { value = c.from_residual.ensures ∙ ap (with_one a.code) none ∙ sym (said_one a.code fields (omega arith) (omega arith)); list_after = put_no_entries a.code fields a.list.now (λ l. omega arith) })

pub returns-in_ok-one_number-in-7-to-12 : goal.returns-in_ok-one_number-in-7-to-12
returns-in_ok-one_number-in-7-to-12 c =
    let a = c.args in
    let fields = fields_left tab a.rest.now in
    let some = c.in_ok-one_number-in-7-to-12.ensures in (record { value = c.one_said.ensures ∙ ap (with_one a.code) some ∙ sym (said_one a.code fields (omega arith) (omega arith)); list_after = put_no_entries a.code fields a.list.now (λ l. omega arith) })

pub returns-in_err-a-in-13-to-15 : goal.returns-in_err-a-in-13-to-15
returns-in_err-a-in-13-to-15 c =
    let a = c.args in
    let fields = fields_left tab a.rest.now in
    let none = c.in_err-a-in-13-to-15.ensures in (record { value = c.from_residual-in_err-a-in-13-to-15.ensures ∙ ap (with_two a.code) none ∙ sym (said_two a.code fields (omega arith) (omega arith)); list_after = put_no_entries a.code fields a.list.now (λ l. omega arith) })

pub returns-in_ok-a-in-13-to-15 : goal.returns-in_ok-a-in-13-to-15
returns-in_ok-a-in-13-to-15 c =
    let a = c.args in
    let fields = fields_left tab a.rest.now in
    let some = c.in_ok-a-in-13-to-15.ensures in (record { value = c.two_said.ensures ∙ ap (with_two a.code) some ∙ sym (said_two a.code fields (omega arith) (omega arith)); list_after = put_no_entries a.code fields a.list.now (λ l. omega arith) })

pub returns-in-16 : goal.returns-in-16
returns-in-16 c =
    let a = c.args in
    let fields = fields_left tab a.rest.now in (record { value = c.open_line.ensures ∙ sym (said_three a.code fields c.in-16.is); list_after = put_no_entries a.code fields a.list.now (λ l. omega arith) })

pub returns-in-17-to-19 : goal.returns-in-17-to-19
returns-in-17-to-19 c =
    let a = c.args in
    let fields = fields_left tab a.rest.now in (record { value = c.mark_line.ensures ∙ sym (said_mark a.code fields (omega arith) (omega arith)); list_after = put_no_entries a.code fields a.list.now (λ l. omega arith) })

pub returns-in-20-to-22 : goal.returns-in-20-to-22
returns-in-20-to-22 c =
    let a = c.args in
    let said = c.list_line.ensures in
    (record { value = said.value ∙ sym (said_list a.code (fields_left tab a.rest.now) (omega arith)); list_after = said.list_after })

pub returns-in_default : goal.returns-in_default
returns-in_default c =
    let a = c.args in
    let fields = fields_left tab a.rest.now in (record { value = sym (said_unknown a.code fields (omega arith)); list_after = put_no_entries a.code fields a.list.now (λ l. omega arith) })

pub returns-in_default-2 : goal.returns-in_default-2
returns-in_default-2 c =
    let a = c.args in
    let fields = fields_left tab a.rest.now in (record { value = sym (said_past a.code fields (omega arith)); list_after = put_no_entries a.code fields a.list.now (λ l. omega arith) })

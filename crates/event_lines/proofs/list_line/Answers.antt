-- `event_lines::list_line`: each way of the code is a case of the definition. Assumes nothing.
use borrow.Author.Tests.{ne_eqb}
use native.Mathlib.Omega.{arith}
use Rattle.split.specs.Split.{tab}
use Rattle.fields.specs.Fields.{fields_left}
use Rattle.event_lines.specs.ReadLaws.{put_no_entries}
use Rattle.event_lines.specs.Reading.{list_line, entries_by}
use Rattle.event_lines.proofs.list_line.Goals as goal

pub returns-in-20 : goal.returns-in-20
unfolding list_line entries_by
returns-in-20 c =
    (record { value = simp (c.in-20.is, c.temp_line.ensures.value); list_after = simp (c.in-20.is, c.temp_line.ensures.list_after) })

pub returns-in-21 : goal.returns-in-21
unfolding list_line entries_by
returns-in-21 c =
    let k = c.in-21.is in
    (record { value = simp (k, c.head_line.ensures.value); list_after = simp (k, c.head_line.ensures.list_after) })

pub returns-in-22 : goal.returns-in-22
unfolding list_line entries_by
returns-in-22 c =
    let k = c.in-22.is in
    (record { value = simp (k, c.close_line.ensures.value); list_after = simp (k, c.close_line.ensures.list_after) })

pub returns-in_default : goal.returns-in_default
unfolding list_line
returns-in_default c =
    let a = c.args in
    let k = c.in_default.in_default-own.rest in (record { value = simp (ne_eqb _ _ k.1, ne_eqb _ _ k.0.1, ne_eqb _ _ k.0.0.1); list_after = put_no_entries a.code (fields_left tab a.rest.now) a.list.now (λ l. omega (arith, k)) })

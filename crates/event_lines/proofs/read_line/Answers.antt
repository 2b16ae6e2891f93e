-- `event_lines::read_line`: the word and what is left behind it are the line's fields. Assumes nothing.
use mathlib.Core.Path.{sym}
use Rattle.event_lines.specs.RowLaws.{line_step_lem, line_list-step}
use Rattle.event_lines.specs.EventLines.{line_says, line_list}
use Rattle.event_lines.proofs.read_line.Goals as goal

pub returns : goal.returns
unfolding line_says line_list
returns c =
    let line = c.args.line.now in (record {
      value = simp (
        c.line_of.ensures.value,
        c.word_code-code.ensures,
        c.part_before-word.ensures,
        c.rest_after-rest.ensures,
        c.end_of-end.ensures,
      )
          (sym (line_step_lem line));
      list_after = simp (
        c.line_of.ensures.list_after,
        c.word_code-code.ensures,
        c.part_before-word.ensures,
        c.rest_after-rest.ensures,
        c.end_of-end.ensures,
        line_list-step line,
      );
    })

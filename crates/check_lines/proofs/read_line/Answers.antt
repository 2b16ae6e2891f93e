-- `check_lines::read_line`: the word and what is left behind it are the line's fields. Assumes nothing.
use mathlib.Core.Path.{sym}
use Rattle.check_lines.proofs.CheckLinesLaws.{line_step_lem}
use Rattle.check_lines.proofs.read_line.Goals as goal

pub returns : goal.returns
returns c =
    simp (
      c.line_of.ensures,
      c.word_code-code.ensures,
      c.part_before-word.ensures,
      c.rest_after-rest.ensures,
      c.end_of-end.ensures,
    )
    (sym (line_step_lem c.args.line.now))

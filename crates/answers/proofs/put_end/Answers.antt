-- `answers::put_end`: the texts stand behind each other. Assumes nothing.
use Rattle.printing.specs.PrintingLaws.{put_then}
use Rattle.split.specs.Split.{joined}
use Rattle.instructions.specs.Instructions.{line}
use Rattle.answers.specs.Answers.{end_text}
use Rattle.answers.proofs.put_end.Goals as goal

pub returns : goal.returns
unfolding end_text line joined
returns c =
    put_then
    c.put_word-named.ensures
    (put_then
    (put_then c.put_number-registers.ensures (put_then c.put_byte-parted.ensures c.put_number-slots.ensures))
    c.put_byte.ensures)

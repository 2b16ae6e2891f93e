-- `instructions::put_at_line`: word, place and line feed stand behind each other. Assumes nothing.
use Rattle.printing.specs.PrintingLaws.{put_then}
use Rattle.split.specs.Split.{joined}
use Rattle.instructions.specs.Instructions.{line, at_text}
use Rattle.instructions.proofs.put_at_line.Goals as goal

pub returns : goal.returns
unfolding at_text line joined
returns c =
    put_then
    (put_then c.put_word-named.ensures c.put_place-placed.ensures)
    c.put_byte.ensures

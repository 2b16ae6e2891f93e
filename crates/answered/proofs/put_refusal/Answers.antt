-- `answered::put_refusal`: the texts stand behind each other. Assumes nothing.
use Rattle.printing.specs.PrintingLaws.{put_then}
use Rattle.split.specs.Split.{joined}
use Rattle.instructions.specs.Instructions.{line}
use Rattle.answered.specs.Answered.{refusal_text}
use Rattle.answered.proofs.put_refusal.Goals as goal

pub returns : goal.returns
unfolding refusal_text line joined
returns c =
    put_then
    c.put_word-named.ensures
    (put_then
    (put_then c.put_number-numbered.ensures (put_then c.put_byte-parted.ensures c.put_number-refused.ensures))
    c.put_byte.ensures)

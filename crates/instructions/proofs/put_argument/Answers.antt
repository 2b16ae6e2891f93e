-- `instructions::put_argument`: the argument stands behind the tab, and the line feed behind it. Assumes nothing.
use Rattle.printing.specs.PrintingLaws.{put_then}
use Rattle.instructions.proofs.put_argument.Goals as goal

pub returns : goal.returns
returns c =
    put_then
    (put_then c.put_byte-next.ensures c.put_number-end.ensures)
    c.put_byte.ensures

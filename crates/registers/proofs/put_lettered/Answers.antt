-- `registers::put_lettered`: the number stands where the letter ends. Assumes nothing.
use Rattle.printing.specs.PrintingLaws.{put_then}
use Rattle.registers.proofs.put_lettered.Goals as goal

pub returns : goal.returns
returns c = put_then c.put_byte-next.ensures c.put_number.ensures

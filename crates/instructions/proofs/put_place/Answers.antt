-- `instructions::put_place`: the place stands behind the tab. Assumes nothing.
use Rattle.printing.specs.PrintingLaws.{put_then}
use Rattle.instructions.proofs.put_place.Goals as goal

pub returns : goal.returns
returns c = put_then c.put_byte-next.ensures c.put_register.ensures

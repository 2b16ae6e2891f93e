-- `fenomirask::signed`: a count that fits is itself as a signed number.
-- Assumes nothing.
use mir.Syntax.{w64}
use mir.Facts.{to_z_pos}
use Rattle.fenomirask.proofs.signed.Goals as goal

pub returns : goal.returns
returns c = to_z_pos w64 c.requires

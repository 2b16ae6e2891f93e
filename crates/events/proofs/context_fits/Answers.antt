-- `events::context_fits`: the code is the definition. Assumes nothing.
use Rattle.events.proofs.context_fits.Goals as goal

pub returns : goal.returns
returns c = simp (← c.chunk_num.ensures, c.is_chunk.ensures)

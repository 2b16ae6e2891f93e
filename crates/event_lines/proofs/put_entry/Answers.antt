-- `event_lines::put_entry`: past the last cell nothing is put. Assumes nothing.
use mathlib.Core.Path.{sym}
use lib.Seq.{set_out}
use Rattle.event_lines.proofs.put_entry.Goals as goal

pub returns-else-at-list : goal.returns-else-at-list
returns-else-at-list c = let a = c.args in sym (set_out a.list.now a.at a.n c.if-at-list.false)

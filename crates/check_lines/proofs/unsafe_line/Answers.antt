-- `check_lines::unsafe_line`: each way of the code is a case of the definition. Assumes nothing.
use Rattle.check_lines.proofs.unsafe_line.Goals as goal

pub returns-in-Perm : goal.returns-in-Perm
returns-in-Perm c = simp c.in-Perm.is

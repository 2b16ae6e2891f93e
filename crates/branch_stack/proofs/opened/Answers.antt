-- `branch_stack::opened`: the code is the definition. Assumes nothing.
use Rattle.branch_stack.proofs.opened.Goals as goal

pub returns : goal.returns
returns c = simp (c.empty.ensures, c.empty-2.ensures, c.empty-3.ensures)

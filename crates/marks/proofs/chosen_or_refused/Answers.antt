-- `marks::chosen_or_refused`: each way of the code is a case of the definition. Assumes nothing.
use Rattle.marks.proofs.chosen_or_refused.Goals as goal

pub returns-in-Some : goal.returns-in-Some
returns-in-Some c = simp c.in-Some.is

pub returns-in-None : goal.returns-in-None
returns-in-None c = simp c.in-None.is

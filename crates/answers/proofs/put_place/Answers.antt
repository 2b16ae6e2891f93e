-- `answers::put_place`: the texts stand behind each other. Assumes nothing.
use Rattle.answers.proofs.put_place.Goals as goal

pub returns-in-None : goal.returns-in-None
returns-in-None c = rw c.in-None.is c.put_word.ensures

pub returns-in-Some : goal.returns-in-Some
returns-in-Some c = rw c.in-Some.is c.put_at_line.ensures

-- `code_deque::push_back`: each length is a case of the definition. Assumes nothing.
use Rattle.code_deque.proofs.push_back.Goals as goal

pub returns-in-Empty : goal.returns-in-Empty
returns-in-Empty c = simp c.in-Empty.is

pub returns-in-One : goal.returns-in-One
returns-in-One c = simp c.in-One.is

pub returns-in-Two : goal.returns-in-Two
returns-in-Two c = simp c.in-Two.is

pub returns-in-Three : goal.returns-in-Three
returns-in-Three c = simp c.in-Three.is

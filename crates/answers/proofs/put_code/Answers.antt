-- `answers::put_code`: the texts stand behind each other. Assumes nothing.
use Rattle.printing.specs.PrintingLaws.{put_then}
use Rattle.answers.proofs.put_code.Goals as goal

pub returns-in-Empty : goal.returns-in-Empty
returns-in-Empty c = rw c.in-Empty.is c.put_word.ensures

pub returns-in-One : goal.returns-in-One
returns-in-One c = rw c.in-One.is c.put_instruction.ensures

pub returns-in-Two : goal.returns-in-Two
returns-in-Two c = rw c.in-Two.is (put_then c.put_instruction-next.ensures c.put_instruction-in-Two.ensures)

pub returns-in-Three : goal.returns-in-Three
returns-in-Three c = rw c.in-Three.is (put_then (put_then c.put_instruction-next-in-Three.ensures c.put_instruction-last.ensures) c.put_instruction-in-Three.ensures)

-- `printing::put_word`: the bytes passed have been put. Assumes nothing.
use lib.ListN.{take}
use Rattle.printing.specs.Printing.{Put}
use Rattle.printing.proofs.put_word.Given as goal

abbrev pub invariant-loop-byte : goal.invariant-loop-byte
invariant-loop-byte l = Put l.initial.out l.at (take l.byte-index l.word) l.next l.out

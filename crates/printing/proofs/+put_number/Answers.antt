-- `printing::put_number`: the last digit behind the digits of a tenth.
use Rattle.std.proofs.Common.{arith}
use Rattle.numbers.specs.DecimalLaws.{decimal-last, decimal_more}
use Rattle.printing.specs.PrintingLaws.{put_then}
use Rattle.printing.proofs.+put_number.Goals as goal

pub returns-then-n-lt10 : goal.returns-then-n-lt10
returns-then-n-lt10 t c = let text = decimal-last c.args.n c.if-n-lt10.true in rw text at c.put_byte.ensures

pub returns : goal.returns
returns t c =
    rw (decimal_more c.args.n (omega arith) (omega arith)) (put_then c.put_number-next.ensures c.put_byte-2.ensures)

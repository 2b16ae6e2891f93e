-- `printing::put_word`: the bytes passed have been put. Assumes nothing.
use native.Mathlib.Numerals.{add-one}
use native.Mathlib.Omega.{arith}
use lib.Seq.{take_all, take-suc}
use Rattle.printing.specs.PrintingLaws.{put-nothing, put_past, put_then}
use Rattle.printing.proofs.put_word.Goals as goal

pub returns-then-out-at : goal.returns-then-out-at
returns-then-out-at c = let a = c.args in put_past a.out.now a.at a.word.now (omega arith) (omega arith)

pub loop-byte-init : goal.loop-byte-init
loop-byte-init c = let a = c.args in put-nothing a.out.now a.at c.if-out-at.false

pub loop-byte-preserved : goal.loop-byte-preserved
loop-byte-preserved c =
    let word = c.args.word.now in
    let l = c.loop-byte in
    let passed = take-suc word l.byte-index 0 c.loop-byte-test.true in
    rw (add-one, passed) (put_then l.invariant c.put_byte-next.ensures)

pub returns : goal.returns
returns c =
    let word = c.args.word.now in
    let l = c.loop-byte in
    rw (take_all l.byte-index word (omega arith)) at l.invariant

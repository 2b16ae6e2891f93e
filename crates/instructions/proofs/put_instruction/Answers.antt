-- `instructions::put_instruction`: word and place stand behind each other, and then what the number asks for; each has a word. Assumes nothing.
use Prim.Native.Nat.{◌<◌}
use native.Mathlib.Omega.{arith}
use lib.ListN.{length}
use Rattle.printing.specs.PrintingLaws.{put_then}
use Rattle.instructions.specs.Codes.{words}
use Rattle.instructions.specs.InstructionsLaws.{text-by-number, number-has-word, line_with_argument, line-without_argument}
use Rattle.instructions.proofs.put_instruction.Goals as goal

pub put_name-named-requires : goal.put_name-named-requires
put_name-named-requires c = rw c.code-code.ensures (number-has-word c.args.instruction)

pub returns-in-0-to-4 : goal.returns-in-0-to-4
returns-in-0-to-4 c =
    let coded = c.code-code in
    rw (text-by-number, ← coded.ensures, line_with_argument coded.result (omega arith))
    (put_then
    (put_then c.put_name-named.ensures c.put_place-placed.ensures)
    c.put_argument.ensures)

pub returns-in-5-to-10 : goal.returns-in-5-to-10
returns-in-5-to-10 c =
    let coded = c.code-code in
    rw (text-by-number, ← coded.ensures, line-without_argument coded.result (omega arith))
    (put_then
    (put_then c.put_name-named.ensures c.put_place-placed.ensures)
    c.put_byte.ensures)

pub unreachable-requires : goal.unreachable-requires
unreachable-requires c =
    let has : c.code-code.result.number < length words = rw c.code-code.ensures (number-has-word c.args.instruction) in
    absurd (omega (arith, has))

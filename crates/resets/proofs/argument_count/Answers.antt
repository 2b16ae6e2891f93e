-- `resets::argument_count`: a list cut at a length has that length, or its own where that is less. Assumes nothing.
use Rattle.std.proofs.Common.{arith, length-take}
use Rattle.sizes.specs.Sizes.{registers}
use Rattle.resets.proofs.argument_count.Goals as goal

pub returns : goal.returns
returns c = omega (arith, c.min.ensures, length-take registers c.args.arguments.now)

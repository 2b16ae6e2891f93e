-- `branches::past_last`: what is left of the word once its leading zeros are counted is the number of its digits. Assumes nothing.
use Rattle.std.proofs.Common.{arith}
use Rattle.std.proofs.lemmas.Nat.{leading_length}
use Rattle.sizes.specs.Sizes.{variables}
use Rattle.branches.specs.ListLaws.{none-past, last-member}
use Rattle.branches.proofs.past_last.Goals as goal

pub returns : goal.returns
returns c =
    let l = leading_length variables c.args.set c.ranges.set.fits in
    record {
      within = omega arith;
      none_from = λ v past. none-past c.args.set l.0 l.2 v (omega (arith, l.1, past));
      last_before = λ some. last-member c.args.set l.0 _ l.2 l.3 (omega (arith, l.1)) some;
    }

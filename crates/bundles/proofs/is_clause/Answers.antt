-- `bundles::is_clause`: the first field is compared. Assumes nothing.
use mathlib.Core.Path.{ap, ◌∙◌}
use lib.ListN.{take}
use Rattle.split.specs.Split.{tab}
use Rattle.split.specs.SplitLaws.{take-before}
use Rattle.words.specs.Words.{same}
use Rattle.bundles.specs.Bundles.{clause_word, is_clause}
use Rattle.bundles.proofs.is_clause.Goals as goal

pub returns : goal.returns
unfolding is_clause
returns c = c.is.ensures ∙ ap (λ l. same l clause_word) (c.part_before.ensures ∙ ap (λ n. take n c.args.line.now) c.end_of-end.ensures ∙ take-before tab c.args.line.now)

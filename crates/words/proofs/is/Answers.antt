-- `words::is`: what the library's `==` says is what the comparison says. Assumes nothing.
use mathlib.Core.Path.{◌∙◌}
use Rattle.words.specs.WordsLaws.{pointwise-same}
use Rattle.words.proofs.is.Goals as goal

pub returns : goal.returns
returns c = c.eq.ensures ∙ pointwise-same c.args.field.now c.args.word.now

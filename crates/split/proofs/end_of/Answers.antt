-- `split::end_of`: the index of the first mark is how many bytes stand before it. Assumes nothing.
use Rattle.std.specs.Prelude.{◌≡◌, eqb, position, length, unwrap_or}
use Rattle.std.proofs.lemmas.Iterator.{YieldsList-from_slice}
use Rattle.std.proofs.lemmas.Iterator.Search.{position_from_yields_List}
use mathlib.Core.Path.{◌∙◌, ap}
use borrow.Author.Rules.{rules}
use Rattle.split.specs.SplitLaws.{position-before}
use Rattle.split.proofs.end_of.Goals as goal

pub returns : goal.returns
returns c =
    let a = c.args in
    let first : c.position.result ≡ position (λ b. eqb b a.mark) a.bytes.now =
    position_from_yields_List (λ b. eqb b a.mark) _ _ c.position.result c.position.ensures.ran (YieldsList-from_slice _ c.iter.ensures.rest) (λ x b q k. search rules)
    in
    c.unwrap_or.ensures ∙ ap (λ o. unwrap_or o (length a.bytes.now)) first ∙ position-before a.mark a.bytes.now

-- `branches::holds_temporary`: the test of each number is whether it is a temporary member. Assumes nothing.
use Rattle.std.proofs.Common.{◌∙◌, arith}
use borrow.Author.Rules.{rules}
use borrow.Author.Tests.{tests}
use Rattle.std.proofs.lemmas.Iterator.{YieldsList-from_range}
use Rattle.std.proofs.lemmas.Iterator.Search.{any_from_yields_List}
use Rattle.sizes.specs.Sizes.{variables}
use Rattle.branches.specs.BranchesLaws.{temporary_member, any_member}
use Rattle.branches.proofs.holds_temporary.Goals as goal

pub returns : goal.returns
returns c =
    let a = c.args in
    let last = c.past_last.result in
    let past = c.past_last.ensures in
    any_from_yields_List (temporary_member a.records.now a.set) _ _ _ c.any.ensures.ran (YieldsList-from_range 0 last last (cc) (omega arith)) (λ x b q k. search (rules, tests))
    ∙ any_member a.records.now a.set 0 last variables last (omega arith) past.within (past.none_from last (omega arith))

-- `branches::names_temporary`: the test of each entry is that of the definition. Assumes nothing.
use borrow.Author.Rules.{rules}
use borrow.Author.Tests.{tests}
use Rattle.std.proofs.lemmas.Iterator.{YieldsList-from_slice}
use Rattle.std.proofs.lemmas.Iterator.Search.{any_from_yields_List}
use Rattle.variable_records.specs.Rows.{is_temporary}
use Rattle.branches.specs.Branches.{names_temporary}
use Rattle.branches.proofs.names_temporary.Goals as goal

pub returns : goal.returns
unfolding names_temporary
returns c = any_from_yields_List (is_temporary c.args.records.now) _ _ _ c.any.ensures.ran (YieldsList-from_slice c.args.variables.now cc) (λ x b q k. search (rules, tests))

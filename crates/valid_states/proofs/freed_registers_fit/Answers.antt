-- `valid_states::freed_registers_fit`: the test of the entries that count is the definition's. Assumes nothing.
use Rattle.std.specs.Prelude.{take}
use Rattle.std.proofs.Common.{◌∙◌, rules, arith}
use borrow.Author.Tests.{tests}
use Rattle.std.proofs.lemmas.Iterator.{YieldsList-from_slice}
use Rattle.std.proofs.lemmas.Iterator.Search.{all_from_yields_List}
use Rattle.sizes.specs.Sizes.{is_register}
use Rattle.valid_states.proofs.BelowLaws.{part-below}
use Rattle.valid_states.proofs.freed_registers_fit.Goals as goal

pub returns : goal.returns
returns c =
    let a = c.args in
    let n = a.counters.freed_registers in
    all_from_yields_List is_register _ _ _ c.all.ensures.ran (YieldsList-from_slice (take n a.list.now) cc) (λ x b q k. search (rules, tests))
    ∙ part-below is_register a.list.now n (omega (arith, c.told-list, c.requires))

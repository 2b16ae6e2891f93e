-- `choice::choose`: a register of the use set where one is not in use, else the least. Assumes nothing.
use Rattle.std.specs.Prelude.{ℕ, ◌≡◌, Option, Some, None}
use Rattle.std.specs.Option.{MatchOption}
use Rattle.std.proofs.Common.{ap, ◌∙◌, rules}
use borrow.Author.Tests.{tests}
use Rattle.choice.specs.Choice.{least_free, chosen, otherwise}
use Rattle.choice.proofs.choose.Goals as goal

-- a register that there is, or else what another search gave
either :
    {Searched : Type 0} (used other r : Option ℕ) → MatchOption used Searched (λ x. r ≡ Some x) → (Searched → r ≡ other)
    → r ≡ otherwise used other
unfolding otherwise
either (Some x) other r e f = e
either None other r e f = f e

pub returns : goal.returns
unfolding chosen
returns c =
    let a = c.args in
    either c.first_unused.result (least_free a.counters a.avoided) c.or_else.result c.or_else.ensures (λ e. search (rules, tests))
    ∙ ap (λ (used : Option ℕ). otherwise used (least_free a.counters a.avoided)) c.first_unused.ensures

-- `event_calls::step_read`: a line without form is refused, any other is carried out with the entries that were read. Assumes
-- nothing.
use Prim.Native.Nat.{ℕ, ◌-◌}
use mathlib.Core.Path.{◌≡◌, ap, ◌∙◌}
use native.Mathlib.Omega.{arith}
use lib.ListN.{length, take}
use borrow.Author.Rules.{rules}
use Rattle.printing.specs.PrintingLaws.{printed-length}
use Rattle.event_calls.specs.CallLaws.{line-malformed, count_within, line_said}
use Rattle.event_calls.proofs.step_read.Goals as goal

pub slice_bounds-step-end : goal.slice_bounds-step-end
slice_bounds-step-end c =
    let short = count_within _ c.read_line.ensures.value _ c.in-Some.is c.requires c.read_line.ensures.list_after in
    search (rules, short)

pub shape_of-list-in-None : goal.shape_of-list-in-None
shape_of-list-in-None c = ap length c.read_line.ensures.list_after ∙ printed-length _ _ _

pub returns-in-None : goal.returns-in-None
returns-in-None c = line-malformed _ c.read_line.ensures.value _ c.in-None.is c.malformed.ensures

pub shape_of-list-in-Some : goal.shape_of-list-in-Some
shape_of-list-in-Some c = ap length c.read_line.ensures.list_after ∙ printed-length _ _ _

pub returns-in-Some : goal.returns-in-Some
returns-in-Some c =
    let count = c.in-Some.said.entries in
    let all : count - 0 ≡ count = omega arith in
    line_said _ c.read_line.ensures.value _ c.in-Some.is c.requires c.read_line.ensures.list_after _ (ap (λ (k : ℕ). take k c.read_line.new.list) all) c.step.ensures

-- `temp_var_data::add_use`: the use is taken where the definition takes it. Assumes nothing.
use mathlib.Core.Path.{sym, ◌∙◌}
use Rattle.temp_var_data.specs.AddedLaws.{takes_not, takes_no_more, takes_no_repeat, takes_new, use_ignored, use_taken}
use Rattle.temp_var_data.proofs.add_use.Goals as goal

pub returns-then-row-ge-VARIABLES : goal.returns-then-row-ge-VARIABLES
returns-then-row-ge-VARIABLES c = use_ignored _ _ _ _ (takes_not _ _ _ _ c.if-row-ge-VARIABLES.true)

pub returns-then-count : goal.returns-then-count
returns-then-count c = use_ignored _ _ _ _ (takes_no_more _ _ _ _ c.if-row-ge-VARIABLES.false c.if-count.true)

pub returns-then-contains_use : goal.returns-then-contains_use
returns-then-contains_use c = use_ignored _ _ _ _ (takes_no_repeat _ _ _ _ (sym c.contains_use.ensures ∙ c.if-contains_use.true))

pub returns : goal.returns
returns c =
    use_taken _ _ _ _
    (takes_new _ _ _ _ c.if-row-ge-VARIABLES.false c.if-count.false
    (sym c.contains_use.ensures ∙ c.if-contains_use.false))

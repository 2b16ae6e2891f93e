-- `temp_var_data::uses_of`: the part that is cut is what counts of the row, and past the last row there is none. Assumes nothing.
use mathlib.Core.Path.{sym}
use Rattle.temp_var_data.specs.UsesLaws.{uses-none, uses_part}
use Rattle.temp_var_data.proofs.uses_of.Goals as goal

pub returns-then-counts-row : goal.returns-then-counts-row
returns-then-counts-row c =
    let a = c.args in
    sym (uses-none a.use_sets.now a.use_counts.now a.v c.if-counts-row.true)

pub returns : goal.returns
returns c =
    let a = c.args in
    uses_part a.use_sets.now a.use_counts.now a.v c.counted.result c.counted.ensures

-- `symbolic::fresh_places`: the places passed hold their own names. Assumes nothing.
use Rattle.std.proofs.Common.{arith}
use Rattle.symbolic.specs.TablesLaws.{own_names}
use Rattle.symbolic.proofs.fresh_places.Goals as goal

pub returns : goal.returns
returns c =
    let l = c.loop-name in
    own_names l.place-items l.invariant.0 (λ name h. l.invariant.1 name (omega arith))

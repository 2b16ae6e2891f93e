-- `bit_set::between`: what is up to the last and not below the first lies between them. Assumes nothing.
use Rattle.bit_set.specs.SearchLaws.{between-less}
use Rattle.bit_set.proofs.between.Goals as goal

pub returns : goal.returns
returns c =
    let a = c.args in
    rw (c.without.ensures, c.below-2.ensures, c.insert.ensures, c.below.ensures)
    (between-less a.first a.last)

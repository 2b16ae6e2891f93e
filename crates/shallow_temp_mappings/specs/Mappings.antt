-- The mapping of rule 6.1: which temporary's value stands in which register.
use Rattle.std.specs.Prelude.{ℕ, Option, List, leb, ltb, get_or, set}
use Rattle.std.specs.Bool.{then_some}
use Rattle.std.specs.Prelude.{if◌then◌else◌}
use Rattle.sizes.specs.Sizes.{variables, registers}

-- no variable
abbrev pub unmapped : ℕ
unmapped = variables

-- the variable that is mapped to a register; none past the last register
unfoldable pub mapped_at : List ℕ → ℕ → ℕ
mapped_at mappings r = if leb r registers then get_or mappings r 0 else unmapped

-- a number in the table as a variable, where it names one
abbrev pub named_by : ℕ → Option ℕ
named_by v = then_some (ltb v variables) v

-- the variable that is mapped to a register, where one is
unfoldable pub variable_at : List ℕ → ℕ → Option ℕ
variable_at mappings r = named_by (mapped_at mappings r)

unfoldable pub mapped_with : List ℕ → ℕ → ℕ → List ℕ
mapped_with mappings r v = if leb r registers then set mappings r v else mappings

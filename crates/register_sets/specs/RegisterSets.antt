-- The tables of no_use_lem and of conflict sets, rule 6.3: of each variable a set of registers.
use Rattle.std.specs.Prelude.{ℕ, ◌%◌, List, get_or, set}
use Rattle.sizes.specs.Sizes.{variables}

-- a variable's set; a number of no variable is taken modulo the number of variables
unfoldable pub set_at : List ℕ → ℕ → ℕ
set_at sets v = get_or sets (v % variables) 0

unfoldable pub set_put : List ℕ → ℕ → ℕ → List ℕ
set_put sets v s = set sets (v % variables) s

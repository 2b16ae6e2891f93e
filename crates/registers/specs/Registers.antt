-- A place: its number, and how it is printed.
use Rattle.std.specs.Prelude.{ℕ, List, ◌∷◌}
use Rattle.notation.specs.Text.{byte}
use Rattle.numbers.specs.Numbers.{decimal}
use Rattle.registers.specs.declared.RegType.{RegType}
use Rattle.registers.specs.declared.RegType.TheVariants.{Temp, Perm}

abbrev pub number_of_place : RegType → ℕ
number_of_place (Temp r) = r
number_of_place (Perm r) = r

-- rule 2.5: `x` or `y` and its number
unfoldable pub register_text : RegType → List ℕ
register_text (Temp r) = byte "x" ∷ decimal r
register_text (Perm r) = byte "y" ∷ decimal r

-- Names: a number for each thing that can be chosen, the entry content of a place, the number of a step, and what a call leaves
-- in a register.
use Rattle.std.specs.Prelude.{ℕ, ◌+◌, ◌*◌}
use Rattle.sizes.specs.Sizes.{registers, steps, instructions}
use Rattle.registers.specs.declared.RegType.{RegType}
use Rattle.registers.specs.declared.RegType.TheVariants.{Temp, Perm}

abbrev pub place_name : RegType → ℕ
place_name (Temp r) = 3 * r
place_name (Perm r) = 3 * r + 1

abbrev pub step_name : ℕ → ℕ
step_name step = 3 * step + 2

-- cells for the contents of the places, each at its name
abbrev pub place_cells : ℕ
place_cells = 3 * (registers + 1)

-- of what a call leaves in a register: the register's own name, moved up by the places' cells as many times as there are step
-- lines up to the call. So the rest by 3 tells it from the name of a step, and entry counts as a call 0
abbrev pub call_name : ℕ → ℕ → ℕ
call_name call r = place_cells * call + place_name (Temp r)

-- no place and no step has this name, or a larger one; what a call left in a register may have it, which is never a variable's
-- value
abbrev pub no_name : ℕ
no_name = 3 * (steps + 1)

-- cells for pairs: two for each line of a sheet, a step line and its instructions for each step
abbrev pub pair_cells : ℕ
pair_cells = 2 * (steps * (instructions + 1))

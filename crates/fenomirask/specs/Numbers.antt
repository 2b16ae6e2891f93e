-- Which answers fit into one signed number: rule 23.1.
use Rattle.std.specs.Prelude.{◌+◌, ◌^◌, ◌≤◌, ◌<◌, Ok, Err}
use Rattle.sizes.specs.Sizes.{sheet_bytes}
use Rattle.answered.specs.Answered.{Answered}

-- a count that a signed number holds, or a line that a sheet can have
abbrev pub Fits : Answered → Type 0
Fits (Ok count) = count < 2 ^ 63
Fits (Err told) = told.line ≤ sheet_bytes + 1

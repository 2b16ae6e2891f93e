-- The sizes, each named once.
use Rattle.std.specs.Prelude.{ℕ, ◌+◌, Bool, ◌&&◌, leb}

-- rules 3.2 and 3.16: variables of a clause, and of a check sheet
abbrev pub variables : ℕ
variables = 64

-- rule 3.3: uses of a temporary
abbrev pub uses : ℕ
uses = 16

-- rules 3.4, 3.5 and 3.16: registers and slots are 1 to 63, arguments and cells 0 to 63
abbrev pub registers : ℕ
registers = 63

-- rule 3.6: chunks are 0 to 255
abbrev pub chunks : ℕ
chunks = 255

-- rule 3.7: occurrences, running counts, arms and arm indices are 0 to 65,535
abbrev pub counts : ℕ
counts = 65_535

-- rule 3.8: open branches
abbrev pub open_branches : ℕ
open_branches = 16

-- rule 3.9: freed registers
abbrev pub freed_registers : ℕ
freed_registers = 64

-- rule 3.10: entries of the queue of freed slots
abbrev pub freed_slots : ℕ
freed_slots = 128

-- rule 3.1: bytes of a sheet
abbrev pub sheet_bytes : ℕ
sheet_bytes = 65_536

-- rule 3.11: `arg_c`, `temp_lb` and `perm_lb` are 1 to 64
abbrev pub counters : ℕ
counters = registers + 1

-- rule 3.15: step lines of a check sheet, and instructions of a step
abbrev pub steps : ℕ
steps = 256

abbrev pub instructions : ℕ
instructions = 4

-- rule 2.3: the largest number of a sheet
abbrev pub largest_number : ℕ
largest_number = 4_294_967_295

-- whether a number is inside its size
abbrev pub is_register : ℕ → Bool
is_register n = leb 1 n && leb n registers

abbrev pub is_argument : ℕ → Bool
is_argument n = leb n registers

abbrev pub is_chunk : ℕ → Bool
is_chunk n = leb n chunks

abbrev pub is_count : ℕ → Bool
is_count n = leb n counts

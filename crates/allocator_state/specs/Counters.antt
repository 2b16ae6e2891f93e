-- One counter changed, the others kept. A counter's number is its place in the record, from 0.
use Rattle.std.specs.Prelude.{ℕ, eqb}
use Rattle.std.specs.Prelude.{if◌then◌else◌}
use Rattle.allocator_state.specs.declared.Counters.{Counters}

-- the counter of that number becomes n
abbrev pub with_counter : ℕ → ℕ → Counters → Counters
with_counter counter n c =
    record {
      arg_c = if eqb counter 0 then n else c.arg_c;
      temp_lb = if eqb counter 1 then n else c.temp_lb;
      perm_lb = if eqb counter 2 then n else c.perm_lb;
      arity = if eqb counter 3 then n else c.arity;
      in_tail_position = if eqb counter 4 then n else c.in_tail_position;
      records = if eqb counter 5 then n else c.records;
      events_seen = if eqb counter 6 then n else c.events_seen;
      freed_registers = if eqb counter 7 then n else c.freed_registers;
      first_freed_slot = if eqb counter 8 then n else c.first_freed_slot;
      freed_slots = if eqb counter 9 then n else c.freed_slots;
      open_branches = if eqb counter 10 then n else c.open_branches;
      in_use = if eqb counter 11 then n else c.in_use;
    }

abbrev pub with_arg_c : ℕ → Counters → Counters
with_arg_c = with_counter 0

abbrev pub with_temp_lb : ℕ → Counters → Counters
with_temp_lb = with_counter 1

abbrev pub with_perm_lb : ℕ → Counters → Counters
with_perm_lb = with_counter 2

abbrev pub with_arity : ℕ → Counters → Counters
with_arity = with_counter 3

abbrev pub with_in_tail_position : ℕ → Counters → Counters
with_in_tail_position = with_counter 4

abbrev pub with_records : ℕ → Counters → Counters
with_records = with_counter 5

abbrev pub with_events_seen : ℕ → Counters → Counters
with_events_seen = with_counter 6

abbrev pub with_freed_registers : ℕ → Counters → Counters
with_freed_registers = with_counter 7

abbrev pub with_first_freed_slot : ℕ → Counters → Counters
with_first_freed_slot = with_counter 8

abbrev pub with_freed_slots : ℕ → Counters → Counters
with_freed_slots = with_counter 9

abbrev pub with_open_branches : ℕ → Counters → Counters
with_open_branches = with_counter 10

abbrev pub with_in_use : ℕ → Counters → Counters
with_in_use = with_counter 11

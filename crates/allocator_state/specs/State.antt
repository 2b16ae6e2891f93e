-- The numbers of a fresh clause that are no table, rule 6.2, and how a counter runs.
use Rattle.std.specs.Prelude.{ℕ, ◌+◌, ltb}
use Rattle.std.specs.Prelude.{if◌then◌else◌}
use Rattle.sizes.specs.Sizes.{counters}
use Rattle.bit_set.specs.BitSet.{empty_set}
use Rattle.allocator_state.specs.declared.Counters.{Counters}

abbrev pub fresh_counters : Counters
fresh_counters =
    record {
      arg_c = 1;
      temp_lb = 1;
      perm_lb = 1;
      arity = 0;
      in_tail_position = 0;
      records = 0;
      events_seen = 0;
      freed_registers = 0;
      first_freed_slot = 0;
      freed_slots = 0;
      open_branches = 0;
      in_use = empty_set;
    }

-- rule 3.11: a counter's next number, never past 64
unfoldable pub counter_after : ℕ → ℕ
counter_after n = if ltb n counters then n + 1 else counters

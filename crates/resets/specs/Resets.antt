-- The events that set numbers: rules 14.1 to 14.10.
use Rattle.std.specs.Prelude.{ℕ, ◌+◌, Bool, false, List, [], ◌∷◌, eqb, leb, length, take, set, replicate}
use Rattle.std.specs.Prelude.{if◌then◌else◌, Option, Some, None}
use Rattle.sizes.specs.Sizes.{variables, registers, counts, freed_registers}
use Rattle.refusals.specs.declared.Refusal.{Refusal}
use Rattle.refusals.specs.Refusals.{accepted, refused_stop, refused_full}
use Rattle.bit_set.specs.BitSet.{empty_set, inserted, removed}
use Rattle.registers.specs.declared.RegType.{RegType}
use Rattle.registers.specs.declared.RegType.TheVariants.{Temp, Perm}
use Rattle.variable_records.specs.declared.VariableRecord.{VariableRecord}
use Rattle.variable_records.specs.Records.{place_of, placed_at}
use Rattle.variable_records.specs.Rows.{record_at, record_put}
use Rattle.shallow_temp_mappings.specs.Mappings.{unmapped, mapped_with}
use Rattle.branch_stack.specs.BranchStack.{current_branch}
use Rattle.allocator_state.specs.declared.Counters.{Counters}
use Rattle.allocator_state.specs.State.{counter_after}
use Rattle.allocator_state.specs.Counters.{with_arg_c, with_temp_lb, with_perm_lb, with_arity, with_in_tail_position, with_freed_registers, with_in_use}
use Rattle.freeing.specs.Freeing.{Release, release, kept, running_at}
use Rattle.record_marks.specs.RecordMarks.{marked_unconditionally}

-- ---- `args` n, rule 14.2: arguments are marked from 1 on, and registers are searched for from n + 1
abbrev pub arg_reset : Counters → ℕ → Counters
arg_reset c arity = with_temp_lb (counter_after arity) (with_arg_c 1 (with_arity 0 c))

-- ---- `head`, rule 14.1: a list of variables, a number past the last variable standing for `-`

-- arguments past the 63rd, which events refuse, do not count
abbrev pub head_arguments : List ℕ → List ℕ
head_arguments arguments = take registers arguments

-- what a head changes
pub record Heading : Type 0 where
  pub records : List ℕ
  pub mappings : List ℕ
  pub counters : Counters

abbrev pub heading : List ℕ → List ℕ → Counters → Heading
heading records mappings counters = record { records = records; mappings = mappings; counters = counters }

abbrev pub has_no_register : RegType → Bool
has_no_register (Temp r) = eqb r 0
has_no_register (Perm slot) = false

-- a temporary variable in register 0
unfoldable pub awaits_register : List ℕ → ℕ → Bool
awaits_register records v = if leb variables v then false else has_no_register (place_of (record_at records v))

-- a variable gets register k, which is mapped to it and in use
abbrev pub register_given : Heading → ℕ → ℕ → Heading
register_given h k v =
    heading
    (record_put h.records v (placed_at (record_at h.records v) k))
    (mapped_with h.mappings k v)
    (with_in_use (inserted h.counters.in_use k) h.counters)

-- so does argument k if it awaits one
unfoldable pub argument_placed : Heading → ℕ → ℕ → Heading
argument_placed h k v = if awaits_register h.records v then register_given h k v else h

-- the arguments from the k-th on, one after the other
unfoldable pub arguments_placed : Heading → ℕ → List ℕ → Heading
arguments_placed h k [] = h
arguments_placed h k (v ∷ vs) = arguments_placed (argument_placed h k v) (k + 1) vs

abbrev pub head_begun : Counters → ℕ → Counters
head_begun c arity = with_arity arity (arg_reset c arity)

unfoldable pub head_reset : Counters → List ℕ → List ℕ → List ℕ → Heading
head_reset c records mappings arguments =
    arguments_placed (heading records mappings (head_begun c (length (head_arguments arguments)))) 1 (head_arguments arguments)

-- ---- `next`: rule 14.7
abbrev pub arg_advanced : Counters → Counters
arg_advanced c = with_arg_c (counter_after c.arg_c) c

-- ---- `reset`, `contents` and `clearfree`: rules 14.8, 14.9 and 14.10

-- what a reset changes
pub record Clearing : Type 0 where
  pub mappings : List ℕ
  pub counters : Counters

abbrev pub clearing : List ℕ → Counters → Clearing
clearing mappings counters = record { mappings = mappings; counters = counters }

-- no register is mapped to a variable
abbrev pub no_mappings : List ℕ
no_mappings = replicate (registers + 1) unmapped

abbrev pub free_list_reset : Counters → Counters
free_list_reset c = with_freed_registers 0 c

unfoldable pub contents_reset : Counters → Clearing
contents_reset c = clearing no_mappings (with_freed_registers 0 (with_in_use empty_set c))

abbrev pub slots_reset : Clearing → Clearing
slots_reset cleared = clearing cleared.mappings (with_perm_lb 1 cleared.counters)

-- what `contents` does, and the next slot is 1; all else stays
unfoldable pub whole_reset : Counters → Clearing
whole_reset c = slots_reset (contents_reset c)

-- ---- `tail`: rule 14.6
abbrev pub tail_set : Counters → ℕ → Counters
tail_set c tail = with_in_tail_position tail c

-- ---- `give` r, rule 14.5: r is taken out of use and joins the freed registers, unless they are full
unfoldable pub register_freed : Counters → List ℕ → ℕ → Release
register_freed c list r =
    if leb freed_registers c.freed_registers then release list (record { counters = c; refusal = refused_full })
    else
    release
    (set list c.freed_registers r)
    (kept (with_freed_registers (c.freed_registers + 1) (with_in_use (removed c.in_use r) c)))

-- ---- `incr` and `safe`: the records, and the refusal, if there is one
pub record Answer : Type 0 where
  pub records : List ℕ
  pub refusal : Option Refusal

abbrev pub answer : List ℕ → Option Refusal → Answer
answer records refusal = record { records = records; refusal = refusal }

-- rule 14.3: one more is counted, unless the count is full
unfoldable pub running_incremented : List ℕ → ℕ → Answer
running_incremented records v =
    if leb counts (record_at records v).running_count then answer records refused_full
    else answer (record_put records v (running_at (record_at records v) ((record_at records v).running_count + 1))) accepted

-- rules 4.4 and 14.4: of a variable that is Pending it is refused
abbrev pub safe_marked_as : Option VariableRecord → List ℕ → ℕ → Answer
safe_marked_as (Some variable) records v = answer (record_put records v variable) accepted
safe_marked_as None records v = answer records refused_stop

unfoldable pub safe_marked : List ℕ → List ℕ → ℕ → ℕ → Answer
safe_marked records rows opened v =
    safe_marked_as (marked_unconditionally (record_at records v) (current_branch rows opened)) records v

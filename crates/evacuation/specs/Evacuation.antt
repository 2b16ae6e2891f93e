-- The choice of a register for a variable by its sets, and the evacuation of a register.
use Rattle.std.specs.Prelude.{Option, Some, None, ℕ, not, List, eqb, leb}
use Rattle.std.specs.Prelude.{if◌then◌else◌}
use Rattle.sizes.specs.Sizes.{variables}
use Rattle.refusals.specs.Refusals.{accepted, refused_register}
use Rattle.bit_set.specs.BitSet.{inserted, union}
use Rattle.registers.specs.declared.RegType.TheVariants.{Temp}
use Rattle.instructions.specs.declared.Instruction.TheVariants.{GetVariable}
use Rattle.code_deque.specs.declared.CodeDeque.{CodeDeque}
use Rattle.code_deque.specs.CodeDeque.{pushed}
use Rattle.variable_records.specs.Records.{placed_at}
use Rattle.variable_records.specs.Rows.{record_at, record_put, is_temporary}
use Rattle.shallow_temp_mappings.specs.Mappings.{unmapped, mapped_at, mapped_with}
use Rattle.temp_var_data.specs.Uses.{uses_of, contains_use, use_code, last_context}
use Rattle.register_sets.specs.RegisterSets.{set_at}
use Rattle.restricting_sets.specs.declared.VariableSets.{VariableSets}
use Rattle.allocator_state.specs.declared.Counters.{Counters}
use Rattle.allocator_state.specs.Counters.{with_in_use}
use Rattle.choice.specs.Choice.{chosen}
use Rattle.evacuation.specs.declared.Hint.{Hint}
use Rattle.evacuation.specs.declared.Hint.TheVariants.{Stays, Moves, NoRegister as Nowhere}
use Rattle.evacuation.specs.declared.Reached.{Reached}

-- rule 8.3: the no_use_lem set is avoided
abbrev pub alloc_with_cr : Counters → VariableSets → ℕ → Option ℕ
alloc_with_cr c s v = chosen c (uses_of s.use_sets s.use_counts v) (set_at s.no_use v)

-- rule 8.3, apart: the conflict set is avoided, too
abbrev pub alloc_with_ca : Counters → VariableSets → ℕ → Option ℕ
alloc_with_ca c s v =
    chosen c (uses_of s.use_sets s.use_counts v) (union (set_at s.no_use v) (set_at s.conflict v))

-- ---- Evacuation

abbrev pub hint_to : ℕ → Option ℕ → Hint
hint_to v (Some r) = Moves v r
hint_to v None = Nowhere

-- rules 9.1, 9.2: a temporary that is mapped to k and has no use of k in the chunk's last goal leaves it, for a register that
-- is chosen apart
unfoldable pub hint : Counters → List ℕ → List ℕ → VariableSets → ℕ → Hint
hint c records mappings s chunk =
    let k = c.arg_c in
    let v = mapped_at mappings k in
    if leb variables v then Stays
    else if not (is_temporary records v) then Stays
    else if contains_use (uses_of s.use_sets s.use_counts v) (use_code (last_context chunk) k) then Stays
    else hint_to v (alloc_with_ca c s v)

-- what an evacuation leaves: the tables that it may change, and how far the event has come
pub record Evacuation : Type 0 where
  pub records : List ℕ
  pub mappings : List ℕ
  pub reached : Reached

abbrev pub evacuation : List ℕ → List ℕ → Reached → Evacuation
evacuation records mappings reached = record { records = records; mappings = mappings; reached = reached }

-- rule 9.2: register and mapping move from k, the register is put in use, and one instruction is made
unfoldable pub moved_to : Counters → List ℕ → List ℕ → CodeDeque → ℕ → ℕ → Evacuation
moved_to c records mappings code v r =
    evacuation
    (record_put records v (placed_at (record_at records v) r))
    (mapped_with (mapped_with mappings c.arg_c unmapped) r v)
    (record {
      counters = with_in_use (inserted c.in_use r) c;
      code = pushed code (GetVariable (Temp r) c.arg_c);
      refusal = accepted;
    })

-- an event that goes on, and one for which no register is found: rule 4.5
abbrev pub going_on : Counters → CodeDeque → Reached
going_on c code = record { counters = c; code = code; refusal = accepted }

abbrev pub no_register : Counters → CodeDeque → Reached
no_register c code = record { counters = c; code = code; refusal = refused_register }

-- rule 9.2: where k itself is chosen, nothing changes
unfoldable pub evacuated_by : Hint → Counters → List ℕ → List ℕ → CodeDeque → Evacuation
evacuated_by Stays c records mappings code = evacuation records mappings (going_on c code)
evacuated_by Nowhere c records mappings code = evacuation records mappings (no_register c code)
evacuated_by (Moves v r) c records mappings code =
    if eqb r c.arg_c then evacuation records mappings (going_on c code) else moved_to c records mappings code v r

unfoldable pub evacuated : Counters → List ℕ → List ℕ → VariableSets → ℕ → CodeDeque → Evacuation
evacuated c records mappings s chunk code = evacuated_by (hint c records mappings s chunk) c records mappings code

-- A register for a new temporary: rule 12.1.
use Rattle.std.specs.Prelude.{Option, Some, None, ℕ, List}
use Rattle.std.specs.Prelude.{if◌then◌else◌}
use Rattle.refusals.specs.Refusals.{is_refused}
use Rattle.forms.specs.declared.GenContext.{GenContext}
use Rattle.forms.specs.declared.GenContext.TheVariants.{Head, Mid, Last}
use Rattle.forms.specs.declared.Level.{Level}
use Rattle.forms.specs.declared.Level.TheVariants.{Root, Shallow, Deep}
use Rattle.code_deque.specs.declared.CodeDeque.{CodeDeque}
use Rattle.allocator_state.specs.declared.Counters.{Counters}
use Rattle.evacuation.specs.declared.Reached.{Reached}
use Rattle.restricting_sets.specs.declared.VariableSets.{VariableSets}
use Rattle.evacuation.specs.Evacuation.{Evacuation, alloc_with_cr, alloc_with_ca, going_on, no_register, evacuated}
use Rattle.marks.specs.declared.RegPlaced.{RegPlaced}

-- ---- What was chosen, and where

abbrev pub chosen_or_refused : Reached → Option ℕ → RegPlaced
chosen_or_refused reached (Some r) = record { reached = reached; place = r }
chosen_or_refused reached None = record { reached = no_register reached.counters reached.code; place = 0 }

-- the records and mappings, and the register or the refusal
pub record RegisterPlacement : Type 0 where
  pub records : List ℕ
  pub mappings : List ℕ
  pub placed : RegPlaced

abbrev pub register_placement : List ℕ → List ℕ → RegPlaced → RegisterPlacement
register_placement records mappings placed = record { records = records; mappings = mappings; placed = placed }

-- chosen apart
unfoldable pub alloc_apart : Counters → VariableSets → ℕ → CodeDeque → RegPlaced
alloc_apart c s v code =
    chosen_or_refused (going_on c code) (alloc_with_ca c s v)

-- chosen after an evacuation
unfoldable pub after_evacuation : Evacuation → VariableSets → ℕ → RegisterPlacement
after_evacuation e s v =
    if is_refused e.reached.refusal then register_placement e.records e.mappings (record { reached = e.reached; place = 0 })
    else
    register_placement e.records e.mappings
    (chosen_or_refused e.reached (alloc_with_cr e.reached.counters s v))

unfoldable pub alloc_shallow : Counters → List ℕ → List ℕ → VariableSets → ℕ → ℕ → CodeDeque → RegisterPlacement
alloc_shallow c records mappings s v chunk code = after_evacuation (evacuated c records mappings s chunk code) s v

-- rule 12.1: at level `s`, in the head or in a last goal, k is evacuated first; otherwise the register is chosen apart
abbrev pub register_placed : Counters → List ℕ → List ℕ → VariableSets → ℕ → Level → GenContext → CodeDeque → RegisterPlacement
register_placed c records mappings s v Root context code = register_placement records mappings (alloc_apart c s v code)
register_placed c records mappings s v Deep context code = register_placement records mappings (alloc_apart c s v code)
register_placed c records mappings s v Shallow (Mid chunk) code = register_placement records mappings (alloc_apart c s v code)
register_placed c records mappings s v Shallow Head code = alloc_shallow c records mappings s v 0 code
register_placed c records mappings s v Shallow (Last chunk) code = alloc_shallow c records mappings s v chunk code

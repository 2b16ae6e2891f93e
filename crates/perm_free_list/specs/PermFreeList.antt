-- The queue of freed slots: rules 10.1 and 10.2.
use Rattle.std.specs.Prelude.{Option, Some, None, ℕ, zero, suc, ◌+◌, ◌*◌, ◌%◌, List, [], ◌∷◌, leb, ltb, get_or, set}
use Rattle.std.specs.Bool.{then_some}
use Rattle.std.specs.Prelude.{if◌then◌else◌}
use Rattle.sizes.specs.Sizes.{freed_slots}
use Rattle.variable_records.specs.declared.VarAlloc.{VarAlloc}
use Rattle.variable_records.specs.declared.VarAlloc.TheVariants.{Temp, Perm}
use Rattle.variable_records.specs.declared.PermVarAllocation.TheVariants.{Done, Pending}
use Rattle.variable_records.specs.Rows.{record_at}
use Rattle.perm_free_list.specs.declared.FreedSlot.{FreedSlot}
use Rattle.perm_free_list.specs.declared.Looked.{Looked}

-- a chunk and a variable
abbrev pub entry_cells : ℕ
entry_cells = 2

-- the table goes round: entry i behind a front
abbrev pub entry_start : ℕ → ℕ → ℕ
entry_start first i = (first % freed_slots + i % freed_slots) % freed_slots * entry_cells

abbrev pub entry_at : List ℕ → ℕ → ℕ → FreedSlot
entry_at list first i =
    record { chunk = get_or list (entry_start first i) 0; variable = get_or list (entry_start first i + 1) 0 }

abbrev pub entry_put : List ℕ → ℕ → ℕ → FreedSlot → List ℕ
entry_put list first i entry = set (set list (entry_start first i) entry.chunk) (entry_start first i + 1) entry.variable

-- the slot of a variable that is Pending, where it has one; none of any other
abbrev pub pending_slot : VarAlloc → Option ℕ
pending_slot (Temp context register safety to_perm) = None
pending_slot (Perm slot (Done shallow deep)) = None
pending_slot (Perm slot Pending) = then_some (ltb 0 slot) slot

unfoldable pub free_slot : List ℕ → ℕ → Option ℕ
free_slot records v = pending_slot (record_at records v).allocation

-- the queue: so many entries from the i-th on
unfoldable pub entries : List ℕ → ℕ → ℕ → ℕ → List FreedSlot
entries list first i zero = []
entries list first i (suc count) = entry_at list first i ∷ entries list first (suc i) count

-- no slot is given, and so many entries are dropped
abbrev pub none : ℕ → Looked
none dropped = record { dropped = dropped; taken = None }

-- a slot is given, its owner's, and so many entries are dropped
abbrev pub gives : ℕ → ℕ → ℕ → Looked
gives dropped slot owner = record { dropped = dropped; taken = Some (record { slot = slot; owner = owner }) }

-- an owner's slot, which is the last of so many entries that are dropped, or else what the rest gives
abbrev pub given_or : Option ℕ → ℕ → ℕ → Looked → Looked
given_or (Some slot) dropped owner rest = gives dropped slot owner
given_or None dropped owner rest = rest

-- rules 10.1, 10.2: a front entry of this chunk or a later one ends it; an earlier one gives its slot, or is dropped
unfoldable pub looked : List ℕ → ℕ → ℕ → List FreedSlot → Looked
looked records chunk dropped [] = none dropped
looked records chunk dropped (entry ∷ rest) =
    if leb chunk entry.chunk then none dropped
    else given_or (free_slot records entry.variable) (dropped + 1) entry.variable (looked records chunk (dropped + 1) rest)

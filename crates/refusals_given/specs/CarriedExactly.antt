-- A line that nothing refuses before it is carried out: when it is given 4 and when 7, rules 4.4 and 4.7. Of `var`, which does
-- many things, only what it may be given is stated (Given).
use Rattle.std.specs.Prelude.{ℕ, ◌-◌, Bool, true, false, ◌||◌, List, eqb, leb, ltb}
use Rattle.sizes.specs.Sizes.{counts, freed_slots}
use Rattle.variable_records.specs.declared.PermVarAllocation.TheVariants.{Done, Pending}
use Rattle.variable_records.specs.declared.VarAlloc.{VarAlloc}
use Rattle.variable_records.specs.declared.VarAlloc.TheVariants.{Temp, Perm}
use Rattle.branches.specs.Branches.{top_of, names_temporary, nowhere_recorded}
use Rattle.allocator_state.specs.declared.Counters.{Counters}
use Rattle.debray_allocator.specs.declared.State.{State}

-- ---- `arm` and `take`: rules 4.4, 4.7

module _ (s : State) (list : List ℕ) where
  abbrev pub no_open_branch : Bool
  no_open_branch = eqb s.counters.open_branches 0

  -- the arm index would pass 65,535
  abbrev pub last_arm : Bool
  last_arm = leb counts (top_of s.branches.rows s.branches.sets s.counters.open_branches).current_branch_idx

-- ---- `close`: rules 4.4, 15.7

module _ (s : State) (depth : ℕ) (list : List ℕ) where
  abbrev pub level : ℕ
  level = s.counters.open_branches

  abbrev pub cannot_close : Bool
  cannot_close =
      ltb level depth
      || (names_temporary s.records list || nowhere_recorded s.branches.rows s.branches.sets (level - depth) list)

-- ---- `safe`: rule 4.4

abbrev pub is_pending : VarAlloc → Bool
is_pending (Temp context register safety to_perm) = false
is_pending (Perm slot Pending) = true
is_pending (Perm slot (Done shallow deep)) = false

-- ---- `free`: rule 4.7

-- a permanent variable that is freed joins the queue
abbrev pub joins_full : Counters → VarAlloc → Bool
joins_full c (Temp context register safety to_perm) = false
joins_full c (Perm slot allocation) = leb freed_slots c.freed_slots

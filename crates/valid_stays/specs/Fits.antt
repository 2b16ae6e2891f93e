-- What a valid state keeps of each of its tables.
use Rattle.std.specs.Prelude.{ℕ, ◌+◌, ◌*◌, ◌≤◌, ◌<◌, ◌≡◌, Bool, true, false, ◌⊎◌, List, length, get_or}
use Rattle.sizes.specs.Sizes.{variables, uses, registers, counters, chunks, counts, freed_registers, freed_slots, open_branches}
use Rattle.bit_set.specs.BitSet.{has}
use Rattle.forms.specs.Forms.{chunk_num}
use Rattle.variable_records.specs.declared.VarAlloc.{VarAlloc}
use Rattle.variable_records.specs.declared.VarAlloc.TheVariants.{Temp, Perm}
use Rattle.variable_records.specs.declared.VariableRecord.{VariableRecord}
use Rattle.variable_records.specs.Rows.{row_cells, row_at, is_temporary}
use Rattle.register_sets.specs.RegisterSets.{set_at}
use Rattle.shallow_temp_mappings.specs.Mappings.{unmapped}
use Rattle.perm_free_list.specs.declared.FreedSlot.{FreedSlot}
use Rattle.perm_free_list.specs.PermFreeList.{entry_cells, entry_at}
use Rattle.branch_stack.specs.declared.BranchOccurrences.{BranchOccurrences}
use Rattle.branch_stack.specs.BranchStack.{numbers_per_branch, sets_per_branch, occurrences_at}
use Rattle.allocator_state.specs.declared.Counters.{Counters}
use Rattle.events.specs.Events.{is_use}
use Rattle.debray_allocator.specs.declared.State.{State}
use Rattle.valid_states.specs.ValidStates.{names_none_or, row_fits}

-- how many variables there are, and of which kind each is
pub record Kinds : Type 0 where
  pub count : ℕ
  pub small : count ≤ variables
  pub temporary : ℕ → Bool

-- a register or slot that there is
pub record Placed (n : ℕ) : Type 0 where
  pub some : 1 ≤ n
  pub last : n ≤ registers

pub record Counter (n : ℕ) : Type 0 where
  pub some : 1 ≤ n
  pub last : n ≤ counters

-- every variable of a set
abbrev pub AllIn : (ℕ → Type 0) → ℕ → Type 0
AllIn P set = (v : ℕ) → v < variables → has set v ≡ true → P v

module _ (k : Kinds) where
  -- ---- The counters

  pub record Counts (c : Counters) : Type 0 where
    pub argument : Counter c.arg_c
    pub search_start : Counter c.temp_lb
    pub slot : Counter c.perm_lb
    pub arity : c.arity ≤ registers
    pub tail : c.in_tail_position ≤ 1
    pub records : c.records ≡ k.count
    pub seen : c.events_seen ≤ 1
    pub freed : c.freed_registers ≤ freed_registers
    pub front : c.first_freed_slot < freed_slots
    pub queued : c.freed_slots ≤ freed_slots
    pub opened : c.open_branches ≤ open_branches
    pub usable : has c.in_use 0 ≡ false

  -- ---- The records

  abbrev pub AllocFits : ℕ → VarAlloc → Type 0
  AllocFits w (Temp context register safety to_perm) =
      (k.temporary w ≡ true) × (chunk_num context ≤ chunks) × (register ≤ registers) × (names_none_or k.count to_perm ≡ true)
  AllocFits w (Perm slot allocation) = (k.temporary w ≡ false) × (slot ≤ registers)

  pub record RecordFits (w : ℕ) (variable : VariableRecord) : Type 0 where
    pub alloc : AllocFits w variable.allocation
    pub occurrences : variable.num_occurrences ≤ counts
    pub running : variable.running_count ≤ counts

  pub record Records (records : List ℕ) : Type 0 where
    pub full : length records ≡ variables * row_cells
    pub row : (w : ℕ) → w < k.count → row_fits k.count (row_at records w) ≡ true
    pub kind : (w : ℕ) → w < k.count → is_temporary records w ≡ k.temporary w

  -- ---- The mappings

  abbrev pub Temporary : ℕ → Type 0
  Temporary v = (v < k.count) × (k.temporary v ≡ true)

  abbrev pub Permanent : ℕ → Type 0
  Permanent v = (v < k.count) × (k.temporary v ≡ false)

  abbrev pub Named : ℕ → Type 0
  Named v = (v ≡ unmapped) ⊎ Temporary v

  pub record Mappings (mappings : List ℕ) : Type 0 where
    pub full : length mappings ≡ registers + 1
    pub named : (r : ℕ) → r < registers + 1 → Named (get_or mappings r 0)

  -- ---- The freed-slot queue

  pub record EntryFits (entry : FreedSlot) : Type 0 where
    pub chunk : entry.chunk ≤ chunks
    pub variable : entry.variable < k.count

  pub record Queue (first count : ℕ) (list : List ℕ) : Type 0 where
    pub full : length list ≡ freed_slots * entry_cells
    pub entry : (i : ℕ) → i < count → EntryFits (entry_at list first i)

  -- ---- The branches

  abbrev pub Variable : ℕ → Type 0
  Variable v = v < k.count

  pub record BranchFits (branch : BranchOccurrences) : Type 0 where
    pub arms : branch.num_branches ≤ counts
    pub arm : branch.current_branch_idx ≤ counts
    pub shallow : AllIn Variable branch.shallow_safety
    pub deep : AllIn Variable branch.deep_safety
    pub hits : AllIn Permanent branch.subsumed_hits

  pub record Branches (opened : ℕ) (rows sets : List ℕ) : Type 0 where
    pub rows_full : length rows ≡ open_branches * numbers_per_branch
    pub sets_full : length sets ≡ open_branches * sets_per_branch
    pub level : (level : ℕ) → level < opened → BranchFits (occurrences_at rows sets level)

-- ---- The freed registers

pub record Freed (count : ℕ) (list : List ℕ) : Type 0 where
  pub full : length list ≡ freed_registers
  pub register : (i : ℕ) → i < count → Placed (get_or list i 0)

-- ---- All that the events but `temp`, `perm` and `sets` change

pub record Valid (k : Kinds) (c : Counters) (records mappings queue freed rows sets : List ℕ) : Type 0 where
  pub counted : Counts k c
  pub recorded : Records k records
  pub mapped : Mappings k mappings
  pub queued : Queue k c.first_freed_slot c.freed_slots queue
  pub given : Freed c.freed_registers freed
  pub opened : Branches k c.open_branches rows sets

-- ---- The sets beside the records

-- the rows of the use sets, as far as they count
pub record Uses (k : Kinds) (use_sets use_counts : List ℕ) : Type 0 where
  pub sets_full : length use_sets ≡ variables * uses
  pub counts_full : length use_counts ≡ variables
  pub count : (v : ℕ) → v < k.count → get_or use_counts v 0 ≤ uses
  pub each : (v : ℕ) → v < k.count → (i : ℕ) → i < get_or use_counts v 0 → is_use (get_or use_sets (v * uses + i) 0) ≡ true

-- the no_use_lem and conflict sets of the variables hold no 0
pub record Restricted (k : Kinds) (no_use conflict : List ℕ) : Type 0 where
  pub no_use_full : length no_use ≡ variables
  pub conflict_full : length conflict ≡ variables
  pub no_used : (v : ℕ) → v < k.count → has (set_at no_use v) 0 ≡ false
  pub conflicts : (v : ℕ) → v < k.count → has (set_at conflict v) 0 ≡ false

-- ---- A state

-- the tables that events change, and those that only records and `sets` do
pub record StateFits (k : Kinds) (s : State) : Type 0 where
  pub whole :
      Valid k s.counters s.records s.mappings s.freed_slots s.freed_registers s.branches.rows s.branches.sets
  pub uses : Uses k s.sets.use_sets s.sets.use_counts
  pub restricted : Restricted k s.sets.no_use s.sets.conflict

-- the lengths that the types give the tables
pub record Full (s : State) : Type 0 where
  pub records : length s.records ≡ variables * row_cells
  pub use_sets : length s.sets.use_sets ≡ variables * uses
  pub use_counts : length s.sets.use_counts ≡ variables
  pub no_use : length s.sets.no_use ≡ variables
  pub conflict : length s.sets.conflict ≡ variables
  pub mappings : length s.mappings ≡ registers + 1
  pub given : length s.freed_registers ≡ freed_registers
  pub queue : length s.freed_slots ≡ freed_slots * entry_cells
  pub branch_rows : length s.branches.rows ≡ open_branches * numbers_per_branch
  pub branch_sets : length s.branches.sets ≡ open_branches * sets_per_branch

-- The events of branches: the tables afterwards, with the counters or the refusal.
use Rattle.std.specs.Prelude.{ℕ, List, Option, Some, Result, Ok, Err, ⊤}
use Rattle.forms.specs.declared.Branch.{Branch}
use Rattle.refusals.specs.declared.Refusal.{Refusal}
use Rattle.refusals.specs.Refusals.{accepted}
use Rattle.allocator_state.specs.declared.Counters.{Counters}
use Rattle.allocator_state.specs.Counters.{with_open_branches}
use Rattle.branches.specs.declared.BranchError.{BranchError}
use Rattle.branches.specs.Branches.{error_refusal, arm_refusal, take_refusal}
use Rattle.branches.specs.Branches.{opening, rows_opened, sets_opened, advanced, rows_advanced, sets_advanced}
use Rattle.branches.specs.Branches.{taken, records_taken, rows_taken, sets_taken, popped, records_popped, rows_popped, sets_popped}
use Rattle.freeing.specs.declared.Released.{Released}

-- the stack of open branches, and the counters or the refusal
pub record Stack : Type 0 where
  pub rows : List ℕ
  pub sets : List ℕ
  pub released : Released

abbrev pub stack_of : List ℕ → List ℕ → Released → Stack
stack_of rows sets released = record { rows = rows; sets = sets; released = released }

-- the records and the stack, and the counters or the refusal
pub record BranchStep : Type 0 where
  pub records : List ℕ
  pub rows : List ℕ
  pub sets : List ℕ
  pub released : Released

abbrev pub branch_of : List ℕ → List ℕ → List ℕ → Released → BranchStep
branch_of records rows sets released = record { records = records; rows = rows; sets = sets; released = released }

abbrev pub released_with : Counters → Option Refusal → Released
released_with c refusal = record { counters = c; refusal = refusal }

abbrev pub branch_from : ℕ → ℕ → Branch
branch_from start span = record { start = start; span = span }

-- so many branches are open afterwards, or the refusal
abbrev pub left_open : Counters → Result ℕ BranchError → Released
left_open c (Ok branches) = released_with (with_open_branches branches c) accepted
left_open c (Err error) = released_with c (Some (error_refusal error))

-- ---- `open`: rule 15.2

abbrev pub open_released : Counters → Result ℕ BranchError → Released
open_released c opened = left_open c opened

unfoldable pub opened : Counters → List ℕ → List ℕ → ℕ → ℕ → ℕ → Stack
opened c rows sets start span arms =
    stack_of
    (rows_opened rows c.open_branches (branch_from start span) arms)
    (sets_opened sets c.open_branches (branch_from start span) arms)
    (open_released c (opening c.open_branches))

-- ---- `arm`: rule 15.3

abbrev pub arm_released : Counters → Result ⊤ BranchError → Released
arm_released c a = released_with c (arm_refusal a)

unfoldable pub armed : Counters → List ℕ → List ℕ → ℕ → ℕ → Stack
armed c rows sets start span =
    stack_of
    (rows_advanced rows sets c.open_branches (branch_from start span))
    (sets_advanced rows sets c.open_branches (branch_from start span))
    (arm_released c (advanced rows sets c.open_branches))

-- ---- `take`: rule 15.5

abbrev pub take_released : Counters → Result ⊤ BranchError → Released
take_released c t = released_with c (take_refusal t)

unfoldable pub stock_taken : Counters → List ℕ → List ℕ → List ℕ → BranchStep
stock_taken c records rows sets =
    branch_of
    (records_taken records rows sets c.open_branches)
    (rows_taken records rows sets c.open_branches)
    (sets_taken records rows sets c.open_branches)
    (take_released c (taken records rows sets c.open_branches))

-- ---- `close`: rules 15.6 and 15.7

abbrev pub close_released : Counters → Result ℕ BranchError → Released
close_released c popped = left_open c popped

unfoldable pub closed : Counters → List ℕ → List ℕ → List ℕ → ℕ → List ℕ → BranchStep
closed c records rows sets depth vs =
    branch_of
    (records_popped records rows sets c.open_branches depth vs)
    (rows_popped records rows sets c.open_branches depth vs)
    (sets_popped records rows sets c.open_branches depth vs)
    (close_released c (popped records rows sets c.open_branches depth vs))

-- What `open`, `arm`, `take` and `close` do to the open branches and to the records, and how an occurrence is recorded.
use Rattle.std.specs.Prelude.{ℕ, ◌+◌, ◌-◌, Bool, false, not, List, eqb, leb, ltb, length}
use Rattle.std.specs.Prelude.{if◌then◌else◌, Option, Some, Result, Ok, Err, ⊤}
use Rattle.std.specs.List.{list_any}
use Rattle.sizes.specs.Sizes.{open_branches, counts}
use Rattle.refusals.specs.declared.Refusal.{Refusal}
use Rattle.refusals.specs.declared.Refusal.TheVariants as refusal
use Rattle.refusals.specs.Refusals.{accepted, is_refused}
use Rattle.bit_set.specs.BitSet.{has, empty_set, inserted, union}
use Rattle.forms.specs.Forms.{default_branch}
use Rattle.forms.specs.declared.Branch.{Branch}
use Rattle.variable_records.specs.declared.VarAlloc.{VarAlloc}
use Rattle.variable_records.specs.declared.VarAlloc.TheVariants.{Temp, Perm}
use Rattle.variable_records.specs.declared.PermVarAllocation.TheVariants.{Done, Pending}
use Rattle.variable_records.specs.Records.{allocated}
use Rattle.variable_records.specs.Rows.{record_at, record_put, is_temporary}
use Rattle.variable_records.specs.Safety.{needed_if, safety_unneeded}
use Rattle.branch_stack.specs.declared.BranchOccurrences.{BranchOccurrences}
use Rattle.branch_stack.specs.BranchStack.{occurrences_at, rows_put, sets_put, branch_opened}
use Rattle.branches.specs.declared.BranchError.{BranchError}
use Rattle.branches.specs.declared.BranchError.TheVariants.{Full, ArmsFull, NoneOpen, TooDeep, PastArms, ClosesTemporary, TakesTemporary}
use Rattle.branches.specs.declared.Guards.{Guards}
use Rattle.notation.specs.Lists.{numbers_from}
use Rattle.branches.specs.Lists.{members, each}

-- ---- The refusal of each error, rules 4.4, 4.7 and 4.8; none where there is no error

abbrev pub error_refusal : BranchError → Refusal
error_refusal Full = refusal.Full
error_refusal ArmsFull = refusal.Full
error_refusal NoneOpen = refusal.Stop
error_refusal TooDeep = refusal.Stop
error_refusal PastArms = refusal.Stop
error_refusal ClosesTemporary = refusal.Stop
error_refusal TakesTemporary = refusal.Unreachable

abbrev pub refusal_of : {A : Type 0} → Result A BranchError → Option Refusal
refusal_of (Ok done) = accepted
refusal_of (Err error) = Some (error_refusal error)

abbrev pub open_refusal : Result ℕ BranchError → Option Refusal
open_refusal opened = refusal_of opened

abbrev pub arm_refusal : Result ⊤ BranchError → Option Refusal
arm_refusal advanced = refusal_of advanced

abbrev pub record_refusal : Result ⊤ BranchError → Option Refusal
record_refusal recorded = refusal_of recorded

abbrev pub take_refusal : Result ⊤ BranchError → Option Refusal
take_refusal taken = refusal_of taken

abbrev pub close_refusal : Result ℕ BranchError → Option Refusal
close_refusal popped = refusal_of popped

-- rule 1.3: a refusal leaves a table as it was
abbrev pub unless_refused : Option Refusal → List ℕ → List ℕ → List ℕ
unless_refused refusal before after = if is_refused refusal then before else after

-- ---- The innermost open branch

-- the default branch, with nothing recorded, where none is open
unfoldable pub top_of : List ℕ → List ℕ → ℕ → BranchOccurrences
top_of rows sets opened = if eqb opened 0 then branch_opened default_branch 0 else occurrences_at rows sets (opened - 1)

-- both tables with another innermost branch; where none is open, there is no place for it
unfoldable pub rows_top : List ℕ → ℕ → BranchOccurrences → List ℕ
rows_top rows opened branch = if eqb opened 0 then rows else rows_put rows (opened - 1) branch

unfoldable pub sets_top : List ℕ → ℕ → BranchOccurrences → List ℕ
sets_top sets opened branch = if eqb opened 0 then sets else sets_put sets (opened - 1) branch

abbrev pub with_safety : BranchOccurrences → ℕ → ℕ → BranchOccurrences
with_safety branch shallow deep =
    record {
      current_branch_num = branch.current_branch_num;
      num_branches = branch.num_branches;
      current_branch_idx = branch.current_branch_idx;
      shallow_safety = shallow;
      deep_safety = deep;
      subsumed_hits = branch.subsumed_hits;
    }

abbrev pub with_subsumed : BranchOccurrences → ℕ → BranchOccurrences
with_subsumed branch subsumed =
    record {
      current_branch_num = branch.current_branch_num;
      num_branches = branch.num_branches;
      current_branch_idx = branch.current_branch_idx;
      shallow_safety = branch.shallow_safety;
      deep_safety = branch.deep_safety;
      subsumed_hits = subsumed;
    }

-- where the index is not below the arms, nothing can be recorded
abbrev pub past_arms : BranchOccurrences → Bool
past_arms branch = leb branch.num_branches branch.current_branch_idx

-- ---- `open`: rule 15.2

unfoldable pub opening : ℕ → Result ℕ BranchError
opening opened = if leb open_branches opened then Err Full else Ok (opened + 1)

unfoldable pub rows_opened : List ℕ → ℕ → Branch → ℕ → List ℕ
rows_opened rows opened branch arms = unless_refused (open_refusal (opening opened)) rows (rows_put rows opened (branch_opened branch arms))

unfoldable pub sets_opened : List ℕ → ℕ → Branch → ℕ → List ℕ
sets_opened sets opened branch arms = unless_refused (open_refusal (opening opened)) sets (sets_put sets opened (branch_opened branch arms))

-- ---- `arm`, rule 15.3: another start and span, and the next index

abbrev pub next_arm : BranchOccurrences → Branch → BranchOccurrences
next_arm top branch =
    record {
      current_branch_num = branch;
      num_branches = top.num_branches;
      current_branch_idx = top.current_branch_idx + 1;
      shallow_safety = top.shallow_safety;
      deep_safety = top.deep_safety;
      subsumed_hits = top.subsumed_hits;
    }

module _ (rows sets : List ℕ) (opened : ℕ) where
  unfoldable pub advanced : Result ⊤ BranchError
  advanced =
      if eqb opened 0 then Err NoneOpen
      else if leb counts (top_of rows sets opened).current_branch_idx then Err ArmsFull
      else Ok tt

  unfoldable pub rows_advanced : Branch → List ℕ
  rows_advanced branch = unless_refused (arm_refusal advanced) rows (rows_top rows opened (next_arm (top_of rows sets opened) branch))

  unfoldable pub sets_advanced : Branch → List ℕ
  sets_advanced branch = unless_refused (arm_refusal advanced) sets (sets_top sets opened (next_arm (top_of rows sets opened) branch))

-- ---- An occurrence of a variable, rule 15.4: the current branch records it, if one is open

abbrev pub occurrence_added : BranchOccurrences → ℕ → BranchOccurrences
occurrence_added top v = with_subsumed top (inserted top.subsumed_hits v)

module _ (rows sets : List ℕ) (opened : ℕ) where
  unfoldable pub recorded : Result ⊤ BranchError
  recorded = if eqb opened 0 then Ok tt else if past_arms (top_of rows sets opened) then Err PastArms else Ok tt

  unfoldable pub rows_recorded : ℕ → List ℕ
  rows_recorded v = unless_refused (record_refusal recorded) rows (rows_top rows opened (occurrence_added (top_of rows sets opened) v))

  unfoldable pub sets_recorded : ℕ → List ℕ
  sets_recorded v = unless_refused (record_refusal recorded) sets (sets_top sets opened (occurrence_added (top_of rows sets opened) v))

-- ---- `close`, rules 15.6 and 15.7: so many branches are taken away, and variables are named

unfoldable pub names_temporary : List ℕ → List ℕ → Bool
names_temporary records vs = list_any (is_temporary records) vs

-- the branch that is left, if one is, has to record each variable, and cannot
unfoldable pub nowhere_recorded : List ℕ → List ℕ → ℕ → List ℕ → Bool
nowhere_recorded rows sets left vs =
    if eqb left 0 then false else if eqb (length vs) 0 then false else past_arms (top_of rows sets left)

-- a set joined by that of a level
abbrev pub shallow_joined : List ℕ → List ℕ → ℕ → ℕ → ℕ
shallow_joined rows sets set level = union set (occurrences_at rows sets level).shallow_safety

abbrev pub deep_joined : List ℕ → List ℕ → ℕ → ℕ → ℕ
deep_joined rows sets set level = union set (occurrences_at rows sets level).deep_safety

-- the branch that is left: it gets the variables to be guarded of each that goes
unfoldable pub branch_met : List ℕ → List ℕ → ℕ → ℕ → BranchOccurrences
branch_met rows sets left opened =
    let top = top_of rows sets left in
    let removed = numbers_from left (opened - left) in
    with_safety top
    (each (shallow_joined rows sets) top.shallow_safety removed)
    (each (deep_joined rows sets) top.deep_safety removed)

-- Done with its slot kept, each safety Needed where the variable is to be guarded
unfoldable pub allocation_met : BranchOccurrences → ℕ → VarAlloc → VarAlloc
allocation_met met v (Temp context register safety to_perm) = Temp context register safety to_perm
allocation_met met v (Perm slot allocation) =
    Perm slot
    (Done
    (needed_if (has met.shallow_safety v) met.current_branch_num)
    (needed_if (has met.deep_safety v) met.current_branch_num))

-- so it goes with a variable whose running count is below its occurrences
unfoldable pub variable_closed : BranchOccurrences → List ℕ → ℕ → List ℕ
variable_closed met records v =
    let variable = record_at records v in
    if leb variable.num_occurrences variable.running_count then records
    else record_put records v (allocated variable (allocation_met met v variable.allocation))

abbrev pub occurrences_added : BranchOccurrences → List ℕ → BranchOccurrences
occurrences_added top vs = with_subsumed top (each inserted top.subsumed_hits vs)

module _ (records rows sets : List ℕ) (opened depth : ℕ) (vs : List ℕ) where
  unfoldable pub popped : Result ℕ BranchError
  popped =
      if ltb opened depth then Err TooDeep
      else if names_temporary records vs then Err ClosesTemporary
      else if nowhere_recorded rows sets (opened - depth) vs then Err PastArms
      else Ok (opened - depth)

  abbrev pub left_on_top : BranchOccurrences
  left_on_top = branch_met rows sets (opened - depth) opened

  unfoldable pub records_popped : List ℕ
  records_popped = unless_refused (close_refusal popped) records (each (variable_closed left_on_top) records vs)

  unfoldable pub rows_popped : List ℕ
  rows_popped = unless_refused (close_refusal popped) rows (rows_top rows (opened - depth) (occurrences_added left_on_top vs))

  unfoldable pub sets_popped : List ℕ
  sets_popped = unless_refused (close_refusal popped) sets (sets_top sets (opened - depth) (occurrences_added left_on_top vs))

-- ---- `take`, rule 15.5: the variables that are recorded, each of them permanent

abbrev pub no_guards : Guards
no_guards = record { shallow = false; deep = false }

-- a variable that is Done is to be guarded where its safety is not unneeded in the branch
unfoldable pub guards_in : Branch → VarAlloc → Guards
guards_in branch (Temp context register safety to_perm) = no_guards
guards_in branch (Perm slot Pending) = no_guards
guards_in branch (Perm slot (Done shallow deep)) =
    record { shallow = not (safety_unneeded shallow branch); deep = not (safety_unneeded deep branch) }

abbrev pub guards_at : List ℕ → BranchOccurrences → ℕ → Guards
guards_at records top v = guards_in top.current_branch_num (record_at records v).allocation

unfoldable pub guards_if_member : List ℕ → BranchOccurrences → ℕ → Guards
guards_if_member records top v = if has top.subsumed_hits v then guards_at records top v else no_guards

unfoldable pub inserted_if : ℕ → ℕ → Bool → ℕ
inserted_if set v wanted = if wanted then inserted set v else set

-- a set joined by a variable that is to be guarded so
abbrev pub shallow_taken : List ℕ → BranchOccurrences → ℕ → ℕ → ℕ
shallow_taken records top set v = inserted_if set v (guards_at records top v).shallow

abbrev pub deep_taken : List ℕ → BranchOccurrences → ℕ → ℕ → ℕ
deep_taken records top set v = inserted_if set v (guards_at records top v).deep

-- each variable that is recorded joins the sets of how it is to be guarded, and then nothing is recorded
unfoldable pub safety_taken : List ℕ → BranchOccurrences → BranchOccurrences
safety_taken records top =
    let recorded = members top.subsumed_hits in
    with_subsumed
    (with_safety top
    (each (shallow_taken records top) top.shallow_safety recorded)
    (each (deep_taken records top) top.deep_safety recorded))
    empty_set

-- a permanent variable becomes Pending; the slot is kept
unfoldable pub allocation_pending : VarAlloc → VarAlloc
allocation_pending (Temp context register safety to_perm) = Temp context register safety to_perm
allocation_pending (Perm slot allocation) = Perm slot Pending

unfoldable pub variable_pended : List ℕ → ℕ → List ℕ
variable_pended records v =
    let variable = record_at records v in
    record_put records v (allocated variable (allocation_pending variable.allocation))

unfoldable pub pended_if_member : ℕ → List ℕ → ℕ → List ℕ
pended_if_member set records v = if has set v then variable_pended records v else records

module _ (records rows sets : List ℕ) (opened : ℕ) where
  abbrev pub to_take : List ℕ
  to_take = members (top_of rows sets opened).subsumed_hits

  unfoldable pub taken : Result ⊤ BranchError
  taken =
      if eqb opened 0 then Err NoneOpen
      else if names_temporary records to_take then Err TakesTemporary
      else Ok tt

  unfoldable pub records_taken : List ℕ
  records_taken = unless_refused (take_refusal taken) records (each variable_pended records to_take)

  unfoldable pub rows_taken : List ℕ
  rows_taken = unless_refused (take_refusal taken) rows (rows_top rows opened (safety_taken records (top_of rows sets opened)))

  unfoldable pub sets_taken : List ℕ
  sets_taken = unless_refused (take_refusal taken) sets (sets_top sets opened (safety_taken records (top_of rows sets opened)))

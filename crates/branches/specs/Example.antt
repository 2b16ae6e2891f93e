-- Rules 15.2 to 15.6, tried: in the second arm of one branch another is opened, a variable occurs in it, and it is closed.
-- The variable had to be guarded as an argument and not as a subterm; so it has to be in the outer branch, which records it.
use Rattle.std.specs.Prelude.{ℕ, ◌*◌, ◌≡◌, refl, List, [], ◌∷◌, replicate, Ok}
use Rattle.sizes.specs.Sizes.{variables, open_branches}
use Rattle.bit_set.specs.BitSet.{has, empty_set, inserted, union}
use Rattle.forms.specs.declared.Branch.{Branch}
use Rattle.variable_records.specs.declared.VarSafetyStatus.TheVariants.{Needed, LocallyUnneeded, GloballyUnneeded}
use Rattle.variable_records.specs.declared.PermVarAllocation.{PermVarAllocation}
use Rattle.variable_records.specs.declared.PermVarAllocation.TheVariants.{Done, Pending}
use Rattle.variable_records.specs.declared.VarAlloc.TheVariants.{Perm}
use Rattle.variable_records.specs.declared.VariableRecord.{VariableRecord}
use Rattle.variable_records.specs.Rows.{row_cells, record_at, record_put, record_of, allocation_of, perm_of, safety_of, temporary, is_temporary}
use Rattle.variable_records.specs.Safety.{needed_if, unneeded_in}
use Rattle.branch_stack.specs.BranchStack.{numbers_per_branch, sets_per_branch}
use Rattle.notation.specs.Lists.{numbers_from}
use Rattle.branches.specs.Lists.{members_among, each}
use Rattle.branches.specs.Branches.{top_of, rows_top, sets_top, opening, rows_opened, sets_opened, advanced, rows_advanced, sets_advanced, recorded, rows_recorded, sets_recorded}
use Rattle.branches.specs.Branches.{names_temporary, nowhere_recorded, branch_met, allocation_met, variable_closed, popped, records_popped, rows_popped, sets_popped}
use Rattle.branches.specs.Branches.{guards_in, inserted_if, safety_taken, allocation_pending, variable_pended, taken, records_taken, rows_taken, sets_taken}

abbrev variable : PermVarAllocation → VariableRecord
variable allocation = record { allocation = Perm 1 allocation; num_occurrences = 2; running_count = 1 }

abbrev branch : ℕ → Branch
branch start = record { start = start; span = 5 }

-- a table after each event, from the first to the last
abbrev rows₁ : List ℕ
rows₁ = rows_opened (replicate (open_branches * numbers_per_branch) 0) 0 (branch 10) 2

abbrev sets₁ : List ℕ
sets₁ = sets_opened (replicate (open_branches * sets_per_branch) 0) 0 (branch 10) 2

abbrev rows₂ : List ℕ
rows₂ = rows_advanced rows₁ sets₁ 1 (branch 20)

abbrev sets₂ : List ℕ
sets₂ = sets_advanced rows₁ sets₁ 1 (branch 20)

abbrev rows₃ : List ℕ
rows₃ = rows_opened rows₂ 1 (branch 22) 1

abbrev sets₃ : List ℕ
sets₃ = sets_opened sets₂ 1 (branch 22) 1

abbrev rows₄ : List ℕ
rows₄ = rows_recorded rows₃ sets₃ 2 0

abbrev sets₄ : List ℕ
sets₄ = sets_recorded rows₃ sets₃ 2 0

abbrev records₄ : List ℕ
records₄ = record_put (replicate (variables * row_cells) 0) 0 (variable (Done Needed GloballyUnneeded))

abbrev rows₅ : List ℕ
rows₅ = rows_taken records₄ rows₄ sets₄ 2

abbrev sets₅ : List ℕ
sets₅ = sets_taken records₄ rows₄ sets₄ 2

abbrev records₅ : List ℕ
records₅ = records_taken records₄ rows₄ sets₄ 2

pub example :
    (record_at records₅ 0 ≡ variable Pending)
    × (popped records₅ rows₅ sets₅ 2 1 (0 ∷ []) ≡ Ok 1)
    × (record_at (records_popped records₅ rows₅ sets₅ 2 1 (0 ∷ [])) 0 ≡ variable (Done Needed (LocallyUnneeded (branch 20))))
    × (top_of (rows_popped records₅ rows₅ sets₅ 2 1 (0 ∷ [])) (sets_popped records₅ rows₅ sets₅ 2 1 (0 ∷ [])) 1
    ≡ record {
      current_branch_num = branch 20;
      num_branches = 2;
      current_branch_idx = 1;
      shallow_safety = inserted empty_set 0;
      deep_safety = empty_set;
      subsumed_hits = inserted empty_set 0;
    })
unfolding has inserted union record_at record_put record_of allocation_of perm_of safety_of needed_if unneeded_in numbers_from members_among each top_of rows_top sets_top opening rows_opened sets_opened advanced rows_advanced sets_advanced recorded rows_recorded sets_recorded temporary is_temporary names_temporary nowhere_recorded branch_met allocation_met variable_closed popped records_popped guards_in inserted_if safety_taken allocation_pending variable_pended taken records_taken rows_taken sets_taken rows_popped sets_popped
example = (refl, refl, refl, refl)

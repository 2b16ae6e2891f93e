-- Laws of the stack of open branches: what stands in its two tables after a level was put there.
use Rattle.std.specs.Prelude.{ℕ, ◌-◌, ◌*◌, ◌%◌, ◌<◌, ◌≡◌, refl, ◌≢◌, List, length, replicate}
use Rattle.std.proofs.Common.{ap, ap₂, arith, ne_eqb}
use Rattle.notation.specs.ListLaws.{cells_put-same, cells_put-other, length-put}
use Rattle.sizes.specs.Sizes.{open_branches}
use Rattle.branch_stack.specs.declared.BranchOccurrences.{BranchOccurrences}
use Rattle.branch_stack.specs.BranchStack.{numbers_per_branch, sets_per_branch, row_start, set_start, occurrences_at, rows_put, sets_put, current_branch}

-- the numbers and the sets of a level: tables of that level alone
abbrev numbers_of : BranchOccurrences → List ℕ
numbers_of = rows_put (replicate numbers_per_branch 0) 0

abbrev sets_of : BranchOccurrences → List ℕ
sets_of = sets_put (replicate sets_per_branch 0) 0

abbrev occurrences_from : List ℕ → List ℕ → BranchOccurrences
occurrences_from numbers sets = occurrences_at numbers sets 0

module _ (rows sets : List ℕ) (level : ℕ) (branch : BranchOccurrences) where
  pub occurrences_put-same :
      length rows ≡ open_branches * numbers_per_branch → length sets ≡ open_branches * sets_per_branch
      → occurrences_at (rows_put rows level branch) (sets_put sets level branch) level ≡ branch
  occurrences_put-same rows_size sets_size =
      ap₂ occurrences_from
      (cells_put-same rows (row_start level) 0 (numbers_of branch) (omega arith))
      (cells_put-same sets (set_start level) 0 (sets_of branch) (omega arith))

  pub occurrences_put-other :
      (other : ℕ) → level < open_branches → other < open_branches → level ≢ other
      → occurrences_at (rows_put rows level branch) (sets_put sets level branch) other ≡ occurrences_at rows sets other
  occurrences_put-other other hl ho differ =
      let apart : level % open_branches ≢ other % open_branches = omega arith in
      ap₂ occurrences_from
      (cells_put-other numbers_per_branch _ _ apart rows (numbers_of branch) (omega arith) 0 numbers_per_branch (omega arith))
      (cells_put-other sets_per_branch _ _ apart sets (sets_of branch) (omega arith) 0 sets_per_branch (omega arith))

pub rows_put-length :
    (rows : List ℕ) (level : ℕ) (branch : BranchOccurrences) → length (rows_put rows level branch) ≡ length rows
rows_put-length rows level branch = length-put rows (row_start level) 0 (numbers_of branch)

pub sets_put-length :
    (sets : List ℕ) (level : ℕ) (branch : BranchOccurrences) → length (sets_put sets level branch) ≡ length sets
sets_put-length sets level branch = length-put sets (set_start level) 0 (sets_of branch)

-- what is put at the innermost open level is the current branch
pub current_put :
    (rows : List ℕ) (opened : ℕ) (branch : BranchOccurrences) → length rows ≡ open_branches * numbers_per_branch → 0 < opened
    → current_branch (rows_put rows (opened - 1) branch) opened ≡ branch.current_branch_num
unfolding current_branch
current_put rows opened branch size nested =
    simp (ne_eqb opened 0 (omega arith))
    (ap (λ (b : BranchOccurrences). b.current_branch_num) (occurrences_put-same rows (replicate (open_branches * sets_per_branch) 0) (opened - 1) branch size refl))

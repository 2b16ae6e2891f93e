-- The open branches, rule 15.1, as two tables of rows.
use Rattle.std.specs.Prelude.{ℕ, ◌+◌, ◌-◌, ◌*◌, ◌%◌, List, eqb, get_or, set}
use Rattle.std.specs.Prelude.{if◌then◌else◌}
use Rattle.sizes.specs.Sizes.{open_branches}
use Rattle.bit_set.specs.BitSet.{empty_set}
use Rattle.forms.specs.declared.Branch.{Branch}
use Rattle.forms.specs.Forms.{default_branch}
use Rattle.branch_stack.specs.declared.BranchOccurrences.{BranchOccurrences}

-- start and span, the arms, the index of the current one
abbrev pub numbers_per_branch : ℕ
numbers_per_branch = 4

-- the variables to be guarded as arguments, to be guarded as subterms, recorded
abbrev pub sets_per_branch : ℕ
sets_per_branch = 3

-- a level past the table is taken modulo its rows
abbrev pub row_start : ℕ → ℕ
row_start level = level % open_branches * numbers_per_branch

abbrev pub set_start : ℕ → ℕ
set_start level = level % open_branches * sets_per_branch

abbrev pub branch_at : List ℕ → ℕ → Branch
branch_at rows level = record { start = get_or rows (row_start level) 0; span = get_or rows (row_start level + 1) 0 }

abbrev pub occurrences_at : List ℕ → List ℕ → ℕ → BranchOccurrences
occurrences_at rows sets level =
    record {
      current_branch_num = branch_at rows level;
      num_branches = get_or rows (row_start level + 2) 0;
      current_branch_idx = get_or rows (row_start level + 3) 0;
      shallow_safety = get_or sets (set_start level) 0;
      deep_safety = get_or sets (set_start level + 1) 0;
      subsumed_hits = get_or sets (set_start level + 2) 0;
    }

abbrev pub rows_put : List ℕ → ℕ → BranchOccurrences → List ℕ
rows_put rows level branch =
    set
    (set
    (set (set rows (row_start level) branch.current_branch_num.start) (row_start level + 1) branch.current_branch_num.span)
    (row_start level + 2)
    branch.num_branches)
    (row_start level + 3)
    branch.current_branch_idx

abbrev pub sets_put : List ℕ → ℕ → BranchOccurrences → List ℕ
sets_put sets level branch =
    set
    (set (set sets (set_start level) branch.shallow_safety) (set_start level + 1) branch.deep_safety)
    (set_start level + 2)
    branch.subsumed_hits

-- rule 15.2: a branch that is opened has index 0 and empty sets
abbrev pub branch_opened : Branch → ℕ → BranchOccurrences
branch_opened branch arms =
    record {
      current_branch_num = branch;
      num_branches = arms;
      current_branch_idx = 0;
      shallow_safety = empty_set;
      deep_safety = empty_set;
      subsumed_hits = empty_set;
    }

-- rule 6.6: the current branch, the innermost open one or the default
unfoldable pub current_branch : List ℕ → ℕ → Branch
current_branch rows opened = if eqb opened 0 then default_branch else branch_at rows (opened - 1)

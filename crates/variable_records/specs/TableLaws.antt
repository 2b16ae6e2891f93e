-- Laws of the table of records: what stands in it after a record was put there.
use Rattle.std.specs.Prelude.{ℕ, ◌*◌, ◌%◌, ◌<◌, ◌≡◌, ◌≢◌, List, length, replicate}
use Rattle.std.proofs.Common.{ap, ◌∙◌, arith}
use Rattle.notation.specs.ListLaws.{cells_put-same, cells_put-other, length-put}
use Rattle.sizes.specs.Sizes.{variables}
use Rattle.variable_records.specs.declared.VariableRecord.{VariableRecord}
use Rattle.variable_records.specs.Rows.{record_of, row_of, row_cells, filled_cells, row_start, row_at, row_put, record_at, record_put}
use Rattle.variable_records.specs.RowsLaws.{record_row}

-- the numbers of a record: a table of its row alone
abbrev numbers_of : VariableRecord → List ℕ
numbers_of variable = row_put (replicate filled_cells 0) 0 (row_of variable)

abbrev record_from : List ℕ → VariableRecord
record_from numbers = record_of (row_at numbers 0)

pub record_put-same :
    (records : List ℕ) (v : ℕ) (variable : VariableRecord) → length records ≡ variables * row_cells
    → record_at (record_put records v variable) v ≡ variable
unfolding record_at record_put
record_put-same records v variable size =
    ap record_from (cells_put-same records (row_start v) 0 (numbers_of variable) (omega arith)) ∙ record_row variable

pub record_put-other :
    (records : List ℕ) (v w : ℕ) (variable : VariableRecord) → v < variables → w < variables → v ≢ w
    → record_at (record_put records v variable) w ≡ record_at records w
unfolding record_at record_put
record_put-other records v w variable hv hw differ =
    let apart : v % variables ≢ w % variables = omega arith in
    ap record_from (cells_put-other row_cells _ _ apart records (numbers_of variable) (omega arith) 0 filled_cells (omega arith))

pub record_put-length :
    (records : List ℕ) (v : ℕ) (variable : VariableRecord) → length (record_put records v variable) ≡ length records
unfolding record_put
record_put-length records v variable = length-put records (row_start v) 0 (numbers_of variable)

-- A record, rules 6.3 and 6.4, as numbers: the meaning of each code, and the table of rows.
use Rattle.std.specs.Prelude.{ℕ, ◌+◌, ◌*◌, ◌%◌, Bool, true, false, List, eqb, get_or, set}
use Rattle.std.specs.Prelude.{if◌then◌else◌}
use Rattle.sizes.specs.Sizes.{variables}
use Rattle.forms.specs.Forms.{chunk_num}
use Rattle.forms.specs.declared.GenContext.{GenContext}
use Rattle.forms.specs.declared.GenContext.TheVariants.{Head, Mid, Last}
use Rattle.variable_records.specs.declared.VarSafetyStatus.{VarSafetyStatus}
use Rattle.variable_records.specs.declared.VarSafetyStatus.TheVariants.{Needed, LocallyUnneeded, GloballyUnneeded}
use Rattle.variable_records.specs.declared.PermVarAllocation.{PermVarAllocation}
use Rattle.variable_records.specs.declared.PermVarAllocation.TheVariants.{Done, Pending}
use Rattle.variable_records.specs.declared.VarAlloc.{VarAlloc}
use Rattle.variable_records.specs.declared.VarAlloc.TheVariants.{Temp, Perm}
use Rattle.variable_records.specs.declared.VariableRecord.{VariableRecord}
use Rattle.variable_records.specs.declared.SafetyRow.{SafetyRow}
use Rattle.variable_records.specs.declared.Row.{Row}

-- 0 Needed, 1 LocallyUnneeded, 2 GloballyUnneeded
unfoldable pub safety_of : SafetyRow → VarSafetyStatus
safety_of row =
    if eqb row.code 0 then Needed
    else if eqb row.code 1 then LocallyUnneeded (record { start = row.start; span = row.span })
    else GloballyUnneeded

abbrev pub safety_row_of : VarSafetyStatus → SafetyRow
safety_row_of Needed = record { code = 0; start = 0; span = 0 }
safety_row_of (LocallyUnneeded branch) = record { code = 1; start = branch.start; span = branch.span }
safety_row_of GloballyUnneeded = record { code = 2; start = 0; span = 0 }

-- 0 Head, 1 Mid, 2 Last
unfoldable pub context_of : ℕ → ℕ → GenContext
context_of code chunk = if eqb code 0 then Head else if eqb code 1 then Mid chunk else Last chunk

abbrev pub context_code : GenContext → ℕ
context_code Head = 0
context_code (Mid chunk) = 1
context_code (Last chunk) = 2

-- 0 Done, 1 Pending
unfoldable pub perm_of : Row → PermVarAllocation
perm_of row = if eqb row.pending 0 then Done (safety_of row.safety) (safety_of row.deep) else Pending

-- 0 Temp, 1 Perm
unfoldable pub allocation_of : Row → VarAlloc
allocation_of row =
    if eqb row.kind 0 then Temp (context_of row.context row.chunk) row.place (safety_of row.safety) row.to_perm_var_num
    else Perm row.place (perm_of row)

unfoldable pub record_of : Row → VariableRecord
record_of row =
    record {
      allocation = allocation_of row;
      num_occurrences = row.num_occurrences;
      running_count = row.running_count;
    }

-- ---- And back: the numbers that stand for a record

-- no variable
abbrev pub unset : ℕ
unset = variables

abbrev pub temp_row : GenContext → ℕ → VarSafetyStatus → ℕ → Row
temp_row context register safety to_perm =
    record {
      kind = 0;
      context = context_code context;
      chunk = chunk_num context;
      place = register;
      pending = 0;
      safety = safety_row_of safety;
      deep = safety_row_of Needed;
      to_perm_var_num = to_perm;
      num_occurrences = 0;
      running_count = 0;
    }

abbrev pub perm_row : ℕ → ℕ → VarSafetyStatus → VarSafetyStatus → Row
perm_row slot pending shallow deep =
    record {
      kind = 1;
      context = 0;
      chunk = 0;
      place = slot;
      pending = pending;
      safety = safety_row_of shallow;
      deep = safety_row_of deep;
      to_perm_var_num = unset;
      num_occurrences = 0;
      running_count = 0;
    }

abbrev pub allocated_row : ℕ → PermVarAllocation → Row
allocated_row slot (Done shallow deep) = perm_row slot 0 shallow deep
allocated_row slot Pending = perm_row slot 1 Needed Needed

abbrev pub allocation_row : VarAlloc → Row
allocation_row (Temp context register safety to_perm) = temp_row context register safety to_perm
allocation_row (Perm slot allocation) = allocated_row slot allocation

abbrev pub counted : ℕ → ℕ → Row → Row
counted occurrences running row =
    record {
      kind = row.kind;
      context = row.context;
      chunk = row.chunk;
      place = row.place;
      pending = row.pending;
      safety = row.safety;
      deep = row.deep;
      to_perm_var_num = row.to_perm_var_num;
      num_occurrences = occurrences;
      running_count = running;
    }

abbrev pub row_of : VariableRecord → Row
row_of variable = counted variable.num_occurrences variable.running_count (allocation_row variable.allocation)

-- ---- The table: a row a variable

abbrev pub row_cells : ℕ
row_cells = 16

-- so many of them are a record's own, the others mean nothing
abbrev pub filled_cells : ℕ
filled_cells = 14

-- a number of no variable is taken modulo the number of variables
abbrev pub row_start : ℕ → ℕ
row_start v = v % variables * row_cells

abbrev pub row_at : List ℕ → ℕ → Row
row_at records v =
    record {
      kind = get_or records (row_start v) 0;
      context = get_or records (row_start v + 1) 0;
      chunk = get_or records (row_start v + 2) 0;
      place = get_or records (row_start v + 3) 0;
      pending = get_or records (row_start v + 4) 0;
      safety = record {
        code = get_or records (row_start v + 5) 0;
        start = get_or records (row_start v + 6) 0;
        span = get_or records (row_start v + 7) 0;
      };
      deep = record {
        code = get_or records (row_start v + 8) 0;
        start = get_or records (row_start v + 9) 0;
        span = get_or records (row_start v + 10) 0;
      };
      to_perm_var_num = get_or records (row_start v + 11) 0;
      num_occurrences = get_or records (row_start v + 12) 0;
      running_count = get_or records (row_start v + 13) 0;
    }

-- one cell of a variable's row
abbrev pub cell_put : ℕ → ℕ → ℕ → List ℕ → List ℕ
cell_put v column n records = set records (row_start v + column) n

abbrev pub row_put : List ℕ → ℕ → Row → List ℕ
row_put records v row =
    cell_put v 13 row.running_count
    (cell_put v 12 row.num_occurrences
    (cell_put v 11 row.to_perm_var_num
    (cell_put v 10 row.deep.span
    (cell_put v 9 row.deep.start
    (cell_put v 8 row.deep.code
    (cell_put v 7 row.safety.span
    (cell_put v 6 row.safety.start
    (cell_put v 5 row.safety.code
    (cell_put v 4 row.pending
    (cell_put v 3 row.place
    (cell_put v 2 row.chunk
    (cell_put v 1 row.context
    (set records (row_start v) row.kind)))))))))))))

unfoldable pub record_at : List ℕ → ℕ → VariableRecord
record_at records v = record_of (row_at records v)

unfoldable pub record_put : List ℕ → ℕ → VariableRecord → List ℕ
record_put records v variable = row_put records v (row_of variable)

-- ---- Kinds

unfoldable pub temporary : VarAlloc → Bool
temporary (Temp context register safety to_perm) = true
temporary (Perm slot allocation) = false

unfoldable pub is_temporary : List ℕ → ℕ → Bool
is_temporary records v = temporary (record_at records v).allocation

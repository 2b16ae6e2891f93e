-- A variable is marked: rules 12.1 to 12.12.
use Rattle.std.specs.Prelude.{ℕ, Bool, true, false, List, Option, eqb}
use Rattle.std.specs.Prelude.{if◌then◌else◌}
use Rattle.refusals.specs.declared.Refusal.{Refusal}
use Rattle.refusals.specs.Refusals.{accepted, is_refused}
use Rattle.bit_set.specs.BitSet.{inserted}
use Rattle.registers.specs.declared.RegType.{RegType}
use Rattle.registers.specs.declared.RegType.TheVariants.{Temp as TempRegister, Perm as PermSlot}
use Rattle.registers.specs.Registers.{number_of_place}
use Rattle.code_deque.specs.declared.CodeDeque.{CodeDeque}
use Rattle.code_deque.specs.declared.CodeDeque.TheVariants.{Empty}
use Rattle.forms.specs.declared.Branch.{Branch}
use Rattle.forms.specs.declared.GenContext.{GenContext}
use Rattle.forms.specs.declared.Level.{Level}
use Rattle.forms.specs.declared.Level.TheVariants.{Root, Shallow, Deep}
use Rattle.forms.specs.Forms.{chunk_num}
use Rattle.variable_records.specs.declared.PermVarAllocation.{PermVarAllocation}
use Rattle.variable_records.specs.declared.PermVarAllocation.TheVariants.{Done, Pending}
use Rattle.variable_records.specs.declared.VarAlloc.{VarAlloc}
use Rattle.variable_records.specs.declared.VarAlloc.TheVariants.{Temp, Perm}
use Rattle.variable_records.specs.Records.{placed_at}
use Rattle.variable_records.specs.Rows.{record_at, record_put}
use Rattle.shallow_temp_mappings.specs.Mappings.{mapped_with}
use Rattle.branch_stack.specs.BranchStack.{current_branch}
use Rattle.branches.specs.Branches.{record_refusal, recorded, rows_recorded, sets_recorded}
use Rattle.allocator_state.specs.declared.Counters.{Counters}
use Rattle.allocator_state.specs.Counters.{with_in_use}
use Rattle.evacuation.specs.declared.Reached.{Reached}
use Rattle.restricting_sets.specs.declared.VariableSets.{VariableSets}
use Rattle.evacuation.specs.Evacuation.{Evacuation, evacuation}
use Rattle.allocation.specs.Allocation.{Placement, slot_given, perm_placed}
use Rattle.freeing.specs.Freeing.{ReleaseOf, release_of, counted_or_freed}
use Rattle.reserved_var.specs.ReservedVar.{Step, stopped, subterm_made, argument_marked}
use Rattle.marks.specs.declared.Marked.{Marked}
use Rattle.marks.specs.Marks.{RegisterPlacement, register_placed}
use Rattle.reserved_var.specs.declared.Mark.{Mark}

-- ---- What follows the instruction: rule 12.10

pub record Noted : Type 0 where
  pub mappings : List ℕ
  pub rows : List ℕ
  pub branch_sets : List ℕ
  pub refusal : Option Refusal

abbrev pub noted_place : List ℕ → List ℕ → List ℕ → Option Refusal → Noted
noted_place mappings rows branch_sets refusal =
    record { mappings = mappings; rows = rows; branch_sets = branch_sets; refusal = refusal }

-- of a permanent variable that is new an occurrence is recorded
unfoldable pub noted_slot : List ℕ → List ℕ → List ℕ → ℕ → ℕ → Bool → Noted
noted_slot mappings rows branch_sets opened v is_new =
    if is_new then
    noted_place
    mappings
    (rows_recorded rows branch_sets opened v)
    (sets_recorded rows branch_sets opened v)
    (record_refusal (recorded rows branch_sets opened))
    else noted_place mappings rows branch_sets accepted

-- a temporary's register is mapped to it
abbrev pub noted : List ℕ → List ℕ → List ℕ → ℕ → ℕ → RegType → Bool → Noted
noted mappings rows branch_sets opened v (TempRegister r) is_new =
    noted_place (mapped_with mappings r v) rows branch_sets accepted
noted mappings rows branch_sets opened v (PermSlot slot) is_new = noted_slot mappings rows branch_sets opened v is_new

abbrev pub used_by : ReleaseOf → ℕ → ReleaseOf
used_by r number =
    release_of r.records r.list
    (record {
      counters = with_in_use (inserted r.released.counters.in_use number) r.released.counters;
      refusal = r.released.refusal;
    })

-- the place is stored, the variable is counted or freed, and the place's number is put in use, a slot's too
unfoldable pub settled : Counters → List ℕ → List ℕ → GenContext → ℕ → RegType → ReleaseOf
settled c records list context v place =
    used_by
    (counted_or_freed c (record_put records v (placed_at (record_at records v) (number_of_place place))) list (chunk_num context) v)
    (number_of_place place)

-- the tables that a mark may change, and how far it has come
pub record Marking : Type 0 where
  pub records : List ℕ
  pub mappings : List ℕ
  pub list : List ℕ
  pub rows : List ℕ
  pub branch_sets : List ℕ
  pub reached : Reached

abbrev pub marking : List ℕ → List ℕ → List ℕ → List ℕ → List ℕ → Reached → Marking
marking records mappings list rows branch_sets reached =
    record { records = records; mappings = mappings; list = list; rows = rows; branch_sets = branch_sets; reached = reached }

abbrev pub settled_after : ReleaseOf → Noted → CodeDeque → Marking
settled_after r n code =
    marking r.records n.mappings r.list n.rows n.branch_sets
    (record { counters = r.released.counters; code = code; refusal = r.released.refusal })

unfoldable pub finished_after : Noted → Counters → List ℕ → List ℕ → ℕ → GenContext → RegType → CodeDeque → Marking
finished_after n c records list v context place code =
    if is_refused n.refusal then
    marking records n.mappings list n.rows n.branch_sets (stopped c code n.refusal)
    else settled_after (settled c records list context v place) n code

unfoldable pub finished :
    Counters → List ℕ → List ℕ → List ℕ → List ℕ → List ℕ → ℕ → GenContext → RegType → Bool → CodeDeque → Marking
finished c records mappings list rows branch_sets v context place is_new code =
    finished_after (noted mappings rows branch_sets c.open_branches v place is_new) c records list v context place code

-- ---- The instruction: of a subterm by rule 12.7, of an argument by rule 12.3

abbrev pub subterm_in : Step → List ℕ → Evacuation
subterm_in s mappings = evacuation s.records mappings s.reached

abbrev pub instructed_at :
    Level → Counters → List ℕ → List ℕ → VariableSets → Mark → RegType → Bool → Branch → CodeDeque → Evacuation
instructed_at Deep c records mappings s mark place is_new branch code =
    subterm_in
    (subterm_made c records mappings s mark.target mark.context mark.variable place is_new branch code)
    mappings
instructed_at Root c records mappings s mark place is_new branch code =
    argument_marked c records mappings s mark.target Root mark.context mark.variable place is_new branch code
instructed_at Shallow c records mappings s mark place is_new branch code =
    argument_marked c records mappings s mark.target Shallow mark.context mark.variable place is_new branch code

abbrev pub instructed_for : Counters → List ℕ → List ℕ → VariableSets → List ℕ → Mark → RegType → Bool → CodeDeque → Evacuation
instructed_for c records mappings s rows mark place is_new code =
    instructed_at mark.level c records mappings s mark place is_new (current_branch rows c.open_branches) code

-- ---- A variable whose place is known

unfoldable pub reserved_after : Evacuation → List ℕ → List ℕ → List ℕ → Mark → RegType → Bool → Marking
reserved_after e list rows branch_sets mark place is_new =
    if is_refused e.reached.refusal then marking e.records e.mappings list rows branch_sets e.reached
    else
    finished
    e.reached.counters
    e.records
    e.mappings
    list
    rows
    branch_sets
    mark.variable
    mark.context
    place
    is_new
    e.reached.code

unfoldable pub reserved_marked :
    Counters → List ℕ → List ℕ → VariableSets → List ℕ → List ℕ → List ℕ → Mark → RegType → Bool → CodeDeque → Marking
reserved_marked c records mappings s list rows branch_sets mark place is_new code =
    reserved_after
    (instructed_for c records mappings s rows mark place is_new code)
    list
    rows
    branch_sets
    mark
    place
    is_new

-- ---- A variable

-- the tables that a mark may change, how far it has come, and the place, which `at` shows: rule 12.11
pub record VarMark : Type 0 where
  pub records : List ℕ
  pub mappings : List ℕ
  pub list : List ℕ
  pub rows : List ℕ
  pub branch_sets : List ℕ
  pub marked : Marked

abbrev pub var_mark : List ℕ → List ℕ → List ℕ → List ℕ → List ℕ → Marked → VarMark
var_mark records mappings list rows branch_sets marked =
    record { records = records; mappings = mappings; list = list; rows = rows; branch_sets = branch_sets; marked = marked }

abbrev pub with_place : Marking → RegType → VarMark
with_place m place =
    var_mark m.records m.mappings m.list m.rows m.branch_sets (record { reached = m.reached; place = place })

unfoldable pub marked_at : Counters → List ℕ → List ℕ → VariableSets → List ℕ → List ℕ → List ℕ → Mark → RegType → Bool → CodeDeque → VarMark
marked_at c records mappings s list rows branch_sets mark place is_new code =
    with_place (reserved_marked c records mappings s list rows branch_sets mark place is_new code) place

-- a mark that is refused has no place
abbrev pub placeless : Reached → Marked
placeless reached = record { reached = reached; place = TempRegister 0 }

-- rule 12.1: a temporary that has no register is new and gets one
unfoldable pub new_temporary_after : RegisterPlacement → VariableSets → List ℕ → List ℕ → List ℕ → Mark → VarMark
new_temporary_after p s list rows branch_sets mark =
    if is_refused p.placed.reached.refusal then
    var_mark p.records p.mappings list rows branch_sets (placeless p.placed.reached)
    else
    marked_at
    p.placed.reached.counters
    p.records
    p.mappings
    s
    list
    rows
    branch_sets
    mark
    (TempRegister p.placed.place)
    true
    p.placed.reached.code

unfoldable pub new_temporary_marked : Counters → List ℕ → List ℕ → VariableSets → List ℕ → List ℕ → List ℕ → Mark → VarMark
new_temporary_marked c records mappings s list rows branch_sets mark =
    new_temporary_after
    (register_placed c records mappings s mark.variable mark.level mark.context Empty)
    s
    list
    rows
    branch_sets
    mark

-- rule 12.2: a permanent variable that has no slot is new and gets one
unfoldable pub new_slot_after : Placement → List ℕ → VariableSets → List ℕ → List ℕ → List ℕ → Mark → VarMark
new_slot_after p mappings s list rows branch_sets mark =
    if is_refused p.placed.refusal then
    var_mark p.records mappings list rows branch_sets (placeless (stopped p.placed.counters Empty p.placed.refusal))
    else
    marked_at p.placed.counters p.records mappings s list rows branch_sets mark (PermSlot p.placed.place) true Empty

unfoldable pub new_slot_marked : Counters → List ℕ → List ℕ → VariableSets → List ℕ → List ℕ → List ℕ → Mark → VarMark
new_slot_marked c records mappings s list rows branch_sets mark =
    new_slot_after (perm_placed c records list mark.variable (chunk_num mark.context)) mappings s list rows branch_sets mark

-- rule 12.2: one that has a slot keeps it, and is new while it is Pending
abbrev pub slot_marked : Counters → List ℕ → List ℕ → VariableSets → List ℕ → List ℕ → List ℕ → Mark → ℕ → PermVarAllocation → VarMark
slot_marked c records mappings s list rows branch_sets mark slot Pending =
    marked_at c (slot_given records mark.variable slot) mappings s list rows branch_sets mark (PermSlot slot) true Empty
slot_marked c records mappings s list rows branch_sets mark slot (Done shallow deep) =
    marked_at c records mappings s list rows branch_sets mark (PermSlot slot) false Empty

unfoldable pub temporary_marked : Counters → List ℕ → List ℕ → VariableSets → List ℕ → List ℕ → List ℕ → Mark → ℕ → VarMark
temporary_marked c records mappings s list rows branch_sets mark register =
    if eqb register 0 then new_temporary_marked c records mappings s list rows branch_sets mark
    else marked_at c records mappings s list rows branch_sets mark (TempRegister register) false Empty

unfoldable pub permanent_marked : Counters → List ℕ → List ℕ → VariableSets → List ℕ → List ℕ → List ℕ → Mark → ℕ → PermVarAllocation → VarMark
permanent_marked c records mappings s list rows branch_sets mark slot allocation =
    if eqb slot 0 then new_slot_marked c records mappings s list rows branch_sets mark
    else slot_marked c records mappings s list rows branch_sets mark slot allocation

abbrev pub marked_by : VarAlloc → Counters → List ℕ → List ℕ → VariableSets → List ℕ → List ℕ → List ℕ → Mark → VarMark
marked_by (Temp context register safety to_perm) c records mappings s list rows branch_sets mark =
    temporary_marked c records mappings s list rows branch_sets mark register
marked_by (Perm slot allocation) c records mappings s list rows branch_sets mark =
    permanent_marked c records mappings s list rows branch_sets mark slot allocation

unfoldable pub var_marked : Counters → List ℕ → List ℕ → VariableSets → List ℕ → List ℕ → List ℕ → Mark → VarMark
var_marked c records mappings s list rows branch_sets mark =
    marked_by (record_at records mark.variable).allocation c records mappings s list rows branch_sets mark

-- Every record stays of its kind, in a good place, where an instruction is made for a variable.
use Rattle.std.specs.Prelude.{ℕ, ◌%◌, Bool, List, eqb, leb, Option, Some, None}
use Rattle.notation.specs.ChoiceLaws.{either}
use Rattle.sizes.specs.Sizes.{variables}
use Rattle.forms.specs.Forms.{chunk_num}
use Rattle.forms.specs.declared.Branch.{Branch}
use Rattle.forms.specs.declared.GenContext.{GenContext}
use Rattle.forms.specs.declared.Level.{Level}
use Rattle.forms.specs.declared.Level.TheVariants.{Deep}
use Rattle.registers.specs.declared.RegType.{RegType}
use Rattle.targets.specs.declared.Target.{Target}
use Rattle.code_deque.specs.declared.CodeDeque.{CodeDeque}
use Rattle.variable_records.specs.declared.VariableRecord.{VariableRecord}
use Rattle.variable_records.specs.Rows.{record_at}
use Rattle.shallow_temp_mappings.specs.Mappings.{mapped_at}
use Rattle.allocator_state.specs.declared.Counters.{Counters}
use Rattle.restricting_sets.specs.declared.VariableSets.{VariableSets}
use Rattle.evacuation.specs.Evacuation.{Evacuation}
use Rattle.record_marks.specs.declared.MarkedSafe.{MarkedSafe}
use Rattle.record_marks.specs.declared.MarkedSafe.TheVariants.{Safe, FromTemporary}
use Rattle.record_marks.specs.declared.Valued.{Valued}
use Rattle.record_marks.specs.RecordMarks.{in_place, marked_safe, argument_value, subterm_value, remembered_perm}
use Rattle.reserved_var.specs.ReservedVar.{SafeStep, safe_kept, remembered, safe_made_by, safe_made, Step, value_kept, argument_made, met, subterm_made}
use Rattle.reserved_var.specs.ReservedVar.{others_out, marked_after, argument_marked}
use Rattle.invariants.specs.Kept.{Wanted, Kept, kept_at, kept_put}
use Rattle.invariants.specs.OfEvacuation.{GoodUses, evacuated_keeps}
use Rattle.invariants.specs.OfRecordMarks.{HoldsMade, HoldsSafe, HoldsValue, argument_holds, subterm_holds, safe_holds, remembered_holds}
use Rattle.refusals.specs.Refusals.{is_refused}

module _ (k : Wanted) where
  abbrev KeptSafe : SafeStep → Type 0
  KeptSafe s = Kept k s.records

  abbrev pub KeptStep : Step → Type 0
  KeptStep s = Kept k s.records

  abbrev pub KeptEvacuation : Evacuation → Type 0
  KeptEvacuation e = Kept k e.records

  module _ {records : List ℕ} (every : Kept k records) where
    -- ---- Made safe

    safe_kept_keeps : (v : ℕ) (made : Option VariableRecord) → HoldsMade k (v % variables) made → KeptSafe (safe_kept records v made)
    safe_kept_keeps v (Some variable) h = kept_put k every v variable h
    safe_kept_keeps v None h = every

    remembered_keeps : (mappings : List ℕ) (n v : ℕ) → KeptSafe (remembered records mappings n v)
    unfolding remembered
    remembered_keeps mappings n v =
        let u = mapped_at mappings n in
        either KeptSafe (leb variables u) every
        (safe_kept_keeps u (remembered_perm (record_at records u) v) (remembered_holds k (u % variables) (record_at records u) (kept_at k every u) v))

    safe_made_by_keeps :
        (marked : Option MarkedSafe) (mappings : List ℕ) (n v : ℕ) → HoldsSafe k (v % variables) marked → KeptSafe (safe_made_by marked records mappings n v)
    safe_made_by_keeps (Some (Safe variable)) mappings n v h = kept_put k every v variable h
    safe_made_by_keeps (Some FromTemporary) mappings n v h = remembered_keeps mappings n v
    safe_made_by_keeps None mappings n v h = every

    safe_made_keeps :
        (mappings : List ℕ) (n v : ℕ) (level : Level) (context : GenContext) (branch : Branch)
        → KeptSafe (safe_made records mappings n v level context branch)
    unfolding safe_made
    safe_made_keeps mappings n v level context branch =
        safe_made_by_keeps (marked_safe (record_at records v) level context branch) mappings n v
        (safe_holds k (v % variables) (record_at records v) (kept_at k every v) level context branch)

    -- ---- The instruction

    value_keeps :
        (c : Counters) (v : ℕ) (valued : Option Valued) (code : CodeDeque) → HoldsValue k (v % variables) valued
        → KeptStep (value_kept c records v valued code)
    value_keeps c v (Some valued) code h = kept_put k every v valued.variable h
    value_keeps c v None code h = every

    argument_made_keeps :
        (c : Counters) (mappings : List ℕ) (target : Target) (level : Level) (context : GenContext) (v : ℕ) (place : RegType) (is_new : Bool)
        (branch : Branch) (code : CodeDeque)
        → KeptStep (argument_made c records mappings target level context v place is_new branch code)
    unfolding argument_made
    argument_made_keeps c mappings target level context v place is_new branch code =
        either KeptStep (in_place (record_at records v) context place c.arg_c) every
        (either KeptStep is_new (safe_made_keeps mappings c.arg_c v level context branch)
        (value_keeps c v (argument_value (record_at records v) target place c.arg_c c.in_tail_position branch) code
        (argument_holds k (v % variables) (record_at records v) (kept_at k every v) target place c.arg_c c.in_tail_position branch)))

    pub subterm_made_keeps :
        (c : Counters) (mappings : List ℕ) (s : VariableSets) (target : Target) (context : GenContext) (v : ℕ) (place : RegType) (is_new : Bool)
        (branch : Branch) (code : CodeDeque)
        → KeptStep (subterm_made c records mappings s target context v place is_new branch code)
    unfolding subterm_made
    subterm_made_keeps c mappings s target context v place is_new branch code =
        either KeptStep (met records s context v place is_new)
        (value_keeps c v (subterm_value (record_at records v) target place branch) code
        (subterm_holds k (v % variables) (record_at records v) (kept_at k every v) target place branch))
        (safe_made_keeps mappings c.arg_c v Deep context branch)

  -- ---- A variable as an argument

  module _ (s : VariableSets) (good : GoodUses k s.use_sets) where
    others_out_keeps :
        {records : List ℕ} → Kept k records → (c : Counters) (mappings : List ℕ) (v chunk : ℕ) (code : CodeDeque)
        → KeptEvacuation (others_out c records mappings s v chunk code)
    unfolding others_out
    others_out_keeps every c mappings v chunk code =
        either KeptEvacuation (leb variables (mapped_at mappings c.arg_c)) every
        (either KeptEvacuation (eqb (mapped_at mappings c.arg_c) v) every (evacuated_keeps k s good c mappings code every chunk))

    marked_after_keeps :
        (e : Evacuation) → KeptEvacuation e
        → (target : Target) (level : Level) (context : GenContext) (v : ℕ) (place : RegType) (is_new : Bool) (branch : Branch)
        → KeptEvacuation (marked_after e target level context v place is_new branch)
    unfolding marked_after
    marked_after_keeps e every target level context v place is_new branch =
        either KeptEvacuation (is_refused e.reached.refusal) every
        (argument_made_keeps every e.reached.counters e.mappings target level context v place is_new branch e.reached.code)

    pub argument_marked_keeps :
        {records : List ℕ} → Kept k records
        → (c : Counters) (mappings : List ℕ) (target : Target) (level : Level) (context : GenContext) (v : ℕ) (place : RegType) (is_new : Bool)
        (branch : Branch) (code : CodeDeque)
        → KeptEvacuation (argument_marked c records mappings s target level context v place is_new branch code)
    unfolding argument_marked
    argument_marked_keeps {records} every c mappings target level context v place is_new branch code =
        marked_after_keeps (others_out c records mappings s v (chunk_num context) code) (others_out_keeps every c mappings v (chunk_num context) code)
        target level context v place is_new branch

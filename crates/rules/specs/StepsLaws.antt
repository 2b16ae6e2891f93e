-- Laws of a mark's steps: up to its end none of them changes a count or a kind.
use Rattle.std.specs.Prelude.{Option, Some, None, ℕ, ◌<◌, ◌≡◌, Bool, true, false, List, eqb, leb, ltb}
use Rattle.std.proofs.Math.Path.{refl}
use Rattle.std.proofs.Common.{sym, ◌∙◌}
use Rattle.std.specs.Prelude.{if◌then◌else◌}
use Rattle.sizes.specs.Sizes.{variables, registers}
use Rattle.forms.specs.Forms.{chunk_num}
use Rattle.forms.specs.declared.Branch.{Branch}
use Rattle.forms.specs.declared.GenContext.{GenContext}
use Rattle.forms.specs.declared.GenContext.TheVariants.{Head, Mid, Last}
use Rattle.forms.specs.declared.Level.{Level}
use Rattle.forms.specs.declared.Level.TheVariants.{Root, Shallow, Deep}
use Rattle.registers.specs.declared.RegType.{RegType}
use Rattle.targets.specs.declared.Target.{Target}
use Rattle.code_deque.specs.declared.CodeDeque.{CodeDeque}
use Rattle.variable_records.specs.declared.VarSafetyStatus.TheVariants.{Needed}
use Rattle.variable_records.specs.declared.PermVarAllocation.TheVariants.{Done, Pending}
use Rattle.variable_records.specs.declared.VarAlloc.{VarAlloc}
use Rattle.variable_records.specs.declared.VarAlloc.TheVariants.{Temp, Perm}
use Rattle.variable_records.specs.Safety.{safety_unneeded}
use Rattle.variable_records.specs.Rows.{record_at, temporary, is_temporary}
use Rattle.shallow_temp_mappings.specs.Mappings.{mapped_at}
use Rattle.perm_free_list.specs.declared.Looked.{Looked}
use Rattle.perm_free_list.specs.declared.Taken.{Taken}
use Rattle.allocator_state.specs.declared.Counters.{Counters}
use Rattle.evacuation.specs.declared.Hint.{Hint}
use Rattle.evacuation.specs.declared.Hint.TheVariants.{Stays, Moves, NoRegister}
use Rattle.restricting_sets.specs.declared.VariableSets.{VariableSets}
use Rattle.evacuation.specs.Evacuation.{Evacuation, moved_to, evacuated_by, evacuated, hint}
use Rattle.allocation.specs.Allocation.{Placement, slot_given, slot_taken, new_slot, slot_placed, slot_found, perm_placed, without_front}
use Rattle.record_marks.specs.RecordMarks.{safe_in, marked_safe_of, remembered_of, argument_safe, argument_value_of, subterm_value_of}
use Rattle.record_marks.specs.declared.Valued.{Valued}
use Rattle.record_marks.specs.RecordMarks.{in_place}
use Rattle.reserved_var.specs.ReservedVar.{Step, SafeStep, safe_kept, remembered, safe_made_by, safe_made, value_kept, argument_made, met, subterm_made}
use Rattle.reserved_var.specs.ReservedVar.{others_out, marked_after, argument_marked}
use Rattle.marks.specs.Marks.{RegisterPlacement, after_evacuation, alloc_shallow, register_placed}
use Rattle.reserved_var.specs.declared.Mark.{Mark}
use Rattle.mark_var.specs.MarkVar.{instructed_at}
use Rattle.rules.specs.CountsLaws.{CountsKept, counts_same, counts-again, counts_placed, counts-allocated, counts_anew}
use Rattle.refusals.specs.Refusals.{is_refused}

-- what holds on both ways holds after a choice
pub either_way : {A : Type 0} (P : A → Type 0) (t : Bool) {a b : A} → P a → P b → P (if t then a else b)
either_way P true one other = one
either_way P false one other = other

module _ {before : List ℕ} {records : List ℕ} (kept : CountsKept before records) where
  -- ---- Evacuation, and a register for a new temporary

  moved_keeps : (c : Counters) (mappings : List ℕ) (code : CodeDeque) (v r : ℕ) → CountsKept before (moved_to c records mappings code v r).records
  unfolding moved_to
  moved_keeps c mappings code v r = counts_placed kept v r

  evacuated_by_keeps :
      (moving : Hint) (c : Counters) (mappings : List ℕ) (code : CodeDeque) → CountsKept before (evacuated_by moving c records mappings code).records
  unfolding evacuated_by
  evacuated_by_keeps Stays c mappings code = kept
  evacuated_by_keeps NoRegister c mappings code = kept
  evacuated_by_keeps (Moves v r) c mappings code =
      either_way (λ (e : Evacuation). CountsKept before e.records) (eqb r c.arg_c) kept (moved_keeps c mappings code v r)

  evacuated_keeps :
      (c : Counters) (mappings : List ℕ) (s : VariableSets) (chunk : ℕ) (code : CodeDeque)
      → CountsKept before (evacuated c records mappings s chunk code).records
  unfolding evacuated
  evacuated_keeps c mappings s chunk code = evacuated_by_keeps (hint c records mappings s chunk) c mappings code

  after_keeps : (e : Evacuation) (s : VariableSets) (v : ℕ) → CountsKept before e.records → CountsKept before (after_evacuation e s v).records
  unfolding after_evacuation
  after_keeps e s v k = either_way (λ (p : RegisterPlacement). CountsKept before p.records) (is_refused e.reached.refusal) k k

  shallow_keeps :
      (c : Counters) (mappings : List ℕ) (s : VariableSets) (v chunk : ℕ) (code : CodeDeque)
      → CountsKept before (alloc_shallow c records mappings s v chunk code).records
  unfolding alloc_shallow
  shallow_keeps c mappings s v chunk code =
      after_keeps (evacuated c records mappings s chunk code) s v (evacuated_keeps c mappings s chunk code)

  pub register_keeps :
      (c : Counters) (mappings : List ℕ) (s : VariableSets) (v : ℕ) (level : Level) (context : GenContext) (code : CodeDeque)
      → CountsKept before (register_placed c records mappings s v level context code).records
  register_keeps c mappings s v Root context code = kept
  register_keeps c mappings s v Deep context code = kept
  register_keeps c mappings s v Shallow (Mid chunk) code = kept
  register_keeps c mappings s v Shallow Head code = shallow_keeps c mappings s v 0 code
  register_keeps c mappings s v Shallow (Last chunk) code = shallow_keeps c mappings s v chunk code

  -- ---- A slot for a new permanent variable

  pub given_keeps : (v slot : ℕ) → is_temporary records v ≡ false → CountsKept before (slot_given records v slot)
  unfolding slot_given temporary
  given_keeps v slot permanent = counts-allocated kept v (Perm slot (Done Needed Needed)) (sym permanent)

  taken_keeps : (owner : ℕ) → CountsKept before (slot_taken records owner)
  unfolding slot_taken
  taken_keeps owner = counts_placed kept owner 0

  taken_kind : (owner v : ℕ) → v < variables → is_temporary records v ≡ false → is_temporary (slot_taken records owner) v ≡ false
  unfolding slot_taken
  taken_kind owner v inside permanent = (counts_placed (counts_same records kept.size) owner 0).kind v inside ∙ permanent

  new_slot_keeps : (c : Counters) (v : ℕ) → is_temporary records v ≡ false → CountsKept before (new_slot c records v).records
  unfolding new_slot
  new_slot_keeps c v permanent =
      either_way (λ (p : Placement). CountsKept before p.records) (ltb registers c.perm_lb) kept (given_keeps v c.perm_lb permanent)

-- ---- The safety of a variable that is new

module _ {before : List ℕ} {records : List ℕ} (kept : CountsKept before records) where
  remembers_keeps :
      (u : ℕ) (allocation : VarAlloc) → (record_at records u).allocation ≡ allocation → (v : ℕ)
      → CountsKept before (safe_kept records u (remembered_of allocation (record_at records u) v)).records
  unfolding temporary
  remembers_keeps u (Temp context register safety to_perm) e v = counts_anew kept u _ e refl
  remembers_keeps u (Perm slot allocation) e v = kept

  remembered_keeps : (mappings : List ℕ) (k v : ℕ) → CountsKept before (remembered records mappings k v).records
  unfolding remembered
  remembered_keeps mappings k v =
      either_way (λ (s : SafeStep). CountsKept before s.records) (leb variables (mapped_at mappings k))
      kept
      (remembers_keeps (mapped_at mappings k) (record_at records (mapped_at mappings k)).allocation refl v)

  safe_by_keeps :
      (allocation : VarAlloc) (mappings : List ℕ) (k v : ℕ) → (record_at records v).allocation ≡ allocation
      → (level : Level) (context : GenContext) (branch : Branch)
      → CountsKept before (safe_made_by (marked_safe_of allocation (record_at records v) level context branch) records mappings k v).records
  unfolding safe_in temporary
  safe_by_keeps (Temp at register safety to_perm) mappings k v e level context branch = counts_anew kept v _ e refl
  safe_by_keeps (Perm slot Pending) mappings k v e level context branch = kept
  safe_by_keeps (Perm slot (Done shallow deep)) mappings k v e Deep context branch = counts_anew kept v _ e refl
  safe_by_keeps (Perm slot (Done shallow deep)) mappings k v e Root Head branch = counts_anew kept v _ e refl
  safe_by_keeps (Perm slot (Done shallow deep)) mappings k v e Root (Mid chunk) branch = remembered_keeps mappings k v
  safe_by_keeps (Perm slot (Done shallow deep)) mappings k v e Root (Last chunk) branch = remembered_keeps mappings k v
  safe_by_keeps (Perm slot (Done shallow deep)) mappings k v e Shallow Head branch = counts_anew kept v _ e refl
  safe_by_keeps (Perm slot (Done shallow deep)) mappings k v e Shallow (Mid chunk) branch = remembered_keeps mappings k v
  safe_by_keeps (Perm slot (Done shallow deep)) mappings k v e Shallow (Last chunk) branch = remembered_keeps mappings k v

  safe_keeps :
      (mappings : List ℕ) (k v : ℕ) (level : Level) (context : GenContext) (branch : Branch)
      → CountsKept before (safe_made records mappings k v level context branch).records
  unfolding safe_made
  safe_keeps mappings k v level context branch =
      safe_by_keeps (record_at records v).allocation mappings k v refl level context branch

  -- ---- The instruction

  argument_value_keeps :
      (c : Counters) (v : ℕ) (allocation : VarAlloc) → (record_at records v).allocation ≡ allocation → (target : Target) (place : RegType) (k tail : ℕ) (branch : Branch) (code : CodeDeque)
      → CountsKept before (value_kept c records v (argument_value_of allocation (record_at records v) target place k tail branch) code).records
  unfolding argument_value_of temporary
  argument_value_keeps c v (Temp context register safety to_perm) e target place k tail branch code = counts-again kept v
  argument_value_keeps c v (Perm slot Pending) e target place k tail branch code = kept
  argument_value_keeps c v (Perm slot (Done shallow deep)) e target place k tail branch code =
      either_way (λ (made : Option Valued). CountsKept before (value_kept c records v made code).records) (argument_safe tail shallow branch)
      (counts-again kept v)
      (counts_anew kept v _ e refl)

  subterm_value_keeps :
      (c : Counters) (v : ℕ) (allocation : VarAlloc) → (record_at records v).allocation ≡ allocation → (target : Target) (place : RegType) (branch : Branch) (code : CodeDeque)
      → CountsKept before (value_kept c records v (subterm_value_of allocation (record_at records v) target place branch) code).records
  unfolding subterm_value_of temporary
  subterm_value_keeps c v (Temp context register safety to_perm) e target place branch code =
      either_way (λ (made : Option Valued). CountsKept before (value_kept c records v made code).records) (safety_unneeded safety branch)
      (counts-again kept v)
      (counts_anew kept v _ e refl)
  subterm_value_keeps c v (Perm slot Pending) e target place branch code = kept
  subterm_value_keeps c v (Perm slot (Done shallow deep)) e target place branch code =
      either_way (λ (made : Option Valued). CountsKept before (value_kept c records v made code).records) (safety_unneeded deep branch)
      (counts-again kept v)
      (counts_anew kept v _ e refl)

  module _ (c : Counters) (mappings : List ℕ) (target : Target) (context : GenContext) (v : ℕ) (place : RegType) (is_new : Bool) (branch : Branch) (code : CodeDeque) where
    argument_keeps : (level : Level) → CountsKept before (argument_made c records mappings target level context v place is_new branch code).records
    unfolding argument_made
    argument_keeps level =
        either_way (λ (s : Step). CountsKept before s.records) (in_place (record_at records v) context place c.arg_c)
        kept
        (either_way (λ (s : Step). CountsKept before s.records) is_new
        (safe_keeps mappings c.arg_c v level context branch)
        (argument_value_keeps c v (record_at records v).allocation refl target place c.arg_c c.in_tail_position branch code))

    subterm_keeps : (s : VariableSets) → CountsKept before (subterm_made c records mappings s target context v place is_new branch code).records
    unfolding subterm_made
    subterm_keeps s =
        either_way (λ (m : Step). CountsKept before m.records) (met records s context v place is_new)
        (subterm_value_keeps c v (record_at records v).allocation refl target place branch code)
        (safe_keeps mappings c.arg_c v Deep context branch)

  others_out-keep :
      (c : Counters) (mappings : List ℕ) (s : VariableSets) (v chunk : ℕ) (code : CodeDeque)
      → CountsKept before (others_out c records mappings s v chunk code).records
  unfolding others_out
  others_out-keep c mappings s v chunk code =
      either_way (λ (e : Evacuation). CountsKept before e.records) (leb variables (mapped_at mappings c.arg_c))
      kept
      (either_way (λ (e : Evacuation). CountsKept before e.records) (eqb (mapped_at mappings c.arg_c) v)
      kept
      (evacuated_keeps kept c mappings s chunk code))

module _ {before : List ℕ} where
  marked_after_keeps :
      (e : Evacuation) → CountsKept before e.records
      → (target : Target) (level : Level) (context : GenContext) (v : ℕ) (place : RegType) (is_new : Bool) (branch : Branch)
      → CountsKept before (marked_after e target level context v place is_new branch).records
  unfolding marked_after
  marked_after_keeps e kept target level context v place is_new branch =
      either_way (λ (e : Evacuation). CountsKept before e.records) (is_refused e.reached.refusal)
      kept
      (argument_keeps kept e.reached.counters e.mappings target context v place is_new branch e.reached.code level)

  module _ {records : List ℕ} (kept : CountsKept before records) (c : Counters) (mappings : List ℕ) (s : VariableSets) where
    argument_marked_keeps :
        (target : Target) (level : Level) (context : GenContext) (v : ℕ) (place : RegType) (is_new : Bool) (branch : Branch) (code : CodeDeque)
        → CountsKept before (argument_marked c records mappings s target level context v place is_new branch code).records
    unfolding argument_marked
    argument_marked_keeps target level context v place is_new branch code =
        marked_after_keeps (others_out c records mappings s v (chunk_num context) code)
        (others_out-keep kept c mappings s v (chunk_num context) code)
        target level context v place is_new branch

    pub instructed_keeps :
        (level : Level) (mark : Mark) (place : RegType) (is_new : Bool) (branch : Branch) (code : CodeDeque)
        → CountsKept before (instructed_at level c records mappings s mark place is_new branch code).records
    instructed_keeps Deep mark place is_new branch code =
        subterm_keeps kept c mappings mark.target mark.context mark.variable place is_new branch code s
    instructed_keeps Root mark place is_new branch code =
        argument_marked_keeps mark.target Root mark.context mark.variable place is_new branch code
    instructed_keeps Shallow mark place is_new branch code =
        argument_marked_keeps mark.target Shallow mark.context mark.variable place is_new branch code

  -- ---- A slot

  placed_keeps :
      {records : List ℕ} → CountsKept before records → (taken : Option Taken) (c : Counters) (v : ℕ) → v < variables
      → is_temporary records v ≡ false → CountsKept before (slot_placed taken c records v).records
  placed_keeps kept (Some taken) c v inside permanent =
      given_keeps (taken_keeps kept taken.owner) v taken.slot (taken_kind kept taken.owner v inside permanent)
  placed_keeps kept None c v inside permanent = new_slot_keeps kept c v permanent

  found_keeps :
      {records : List ℕ} → CountsKept before records → (found : Looked) (c : Counters) (v : ℕ) → v < variables → is_temporary records v ≡ false
      → CountsKept before (slot_found found c records v).records
  unfolding slot_found
  found_keeps {records} kept found c v inside permanent =
      placed_keeps kept found.taken (without_front c found.dropped) v inside permanent

  pub slot_keeps :
      {records : List ℕ} → CountsKept before records → (c : Counters) (list : List ℕ) (v chunk : ℕ) → v < variables
      → is_temporary records v ≡ false → CountsKept before (perm_placed c records list v chunk).records
  unfolding perm_placed
  slot_keeps kept c list v chunk inside permanent = found_keeps kept _ c v inside permanent

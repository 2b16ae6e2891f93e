-- In a valid state an instruction for a settled variable is refused by rule 4.5 alone.
use Rattle.std.specs.Prelude.{ℕ, ◌<◌, Bool, List, eqb, leb, Option, Some, None}
use Rattle.std.proofs.Common.{arith, leb-false}
use Rattle.notation.specs.ChoiceLaws.{either, by_test}
use Rattle.refusals.specs.declared.Refusal.{Refusal}
use Rattle.refusals.specs.Refusals.{accepted, refused_register, is_refused}
use Rattle.sizes.specs.Sizes.{variables}
use Rattle.forms.specs.Forms.{chunk_num}
use Rattle.forms.specs.declared.Branch.{Branch}
use Rattle.forms.specs.declared.GenContext.{GenContext}
use Rattle.forms.specs.declared.Level.{Level}
use Rattle.forms.specs.declared.Level.TheVariants.{Deep}
use Rattle.registers.specs.declared.RegType.{RegType}
use Rattle.instructions.specs.declared.Instruction.{Instruction}
use Rattle.targets.specs.declared.Target.{Target}
use Rattle.code_deque.specs.declared.CodeDeque.{CodeDeque}
use Rattle.variable_records.specs.declared.VariableRecord.{VariableRecord}
use Rattle.variable_records.specs.Rows.{record_at}
use Rattle.shallow_temp_mappings.specs.Mappings.{mapped_at}
use Rattle.allocator_state.specs.declared.Counters.{Counters}
use Rattle.evacuation.specs.declared.Hint.{Hint}
use Rattle.evacuation.specs.declared.Hint.TheVariants.{Stays, Moves, NoRegister as Nowhere}
use Rattle.evacuation.specs.declared.Reached.{Reached}
use Rattle.restricting_sets.specs.declared.VariableSets.{VariableSets}
use Rattle.evacuation.specs.Evacuation.{Evacuation, hint, moved_to, evacuated_by, evacuated}
use Rattle.record_marks.specs.declared.MarkedSafe.{MarkedSafe}
use Rattle.record_marks.specs.declared.MarkedSafe.TheVariants.{Safe, FromTemporary}
use Rattle.record_marks.specs.declared.Valued.{Valued}
use Rattle.record_marks.specs.RecordMarks.{in_place, marked_safe, argument_value, subterm_value, remembered_perm}
use Rattle.reserved_var.specs.ReservedVar.{SafeStep, safe_kept, remembered, safe_made_by, safe_made, Step, instructed_after, value_kept, argument_made, met, subterm_made}
use Rattle.reserved_var.specs.ReservedVar.{others_out, advanced_by, marked_after, argument_marked}
use Rattle.valid_stays.specs.Fits.{Kinds, Valid, Uses}
use Rattle.valid_stays.proofs.RecordsFit.{record_fits}
use Rattle.valid_stays.proofs.TablesFit.{mapped_at_lem, named-temporary}
use Rattle.valid_stays.proofs.OfEvacuation.{EvacuationValid}
use Rattle.valid_stays.proofs.OfReservedVar.{others_out_valid}
use Rattle.refusals_given.proofs.OfRecordMarks.{Settled, GoesOn, argument_goes, subterm_goes, safe_goes, remembered_goes, SettledIn, settled_at, settled_placed}

-- P holds of what a step is given
module _ (P : Option Refusal → Type 0) where
  abbrev pub ReachedGiven : Reached → Type 0
  ReachedGiven reached = P reached.refusal

  abbrev pub StepGiven : Step → Type 0
  StepGiven s = P s.reached.refusal

  abbrev pub EvacuationGiven : Evacuation → Type 0
  EvacuationGiven e = P e.reached.refusal

  abbrev SafeGiven : SafeStep → Type 0
  SafeGiven s = P s.refusal

module _ (P : Option Refusal → Type 0) (none : P accepted) where
  pub advanced_given : (reached : Reached) → ReachedGiven P reached → ReachedGiven P (advanced_by reached)
  unfolding advanced_by
  advanced_given reached given = either (ReachedGiven P) (is_refused reached.refusal) given none

  instructed_given :
      (c : Counters) (code : CodeDeque) (refusal : Option Refusal) (instruction : Instruction) → P refusal
      → ReachedGiven P (instructed_after c code refusal instruction)
  unfolding instructed_after
  instructed_given c code refusal instruction given = either (ReachedGiven P) (is_refused refusal) given none

  safe_kept_given : (records : List ℕ) (v : ℕ) (made : Option VariableRecord) → GoesOn made → SafeGiven P (safe_kept records v made)
  safe_kept_given records v (Some variable) goes = none
  safe_kept_given records v None goes = absurd goes

  value_given :
      (c : Counters) (records : List ℕ) (v : ℕ) (valued : Option Valued) (code : CodeDeque) → GoesOn valued
      → StepGiven P (value_kept c records v valued code)
  value_given c records v (Some valued) code goes = instructed_given c code accepted valued.instruction none
  value_given c records v None code goes = absurd goes

  module _ (k : Kinds) {c : Counters} {records mappings queue freed rows sets : List ℕ} (h : Valid k c records mappings queue freed rows sets)
      (v : ℕ) (settled : Settled (record_at records v).allocation) where
    -- who is mapped to a register is a temporary
    remembered_given : (n : ℕ) → SafeGiven P (remembered records mappings n v)
    unfolding remembered
    remembered_given n =
        let u = mapped_at mappings n in
        by_test (SafeGiven P) (leb variables u) (λ e. none)
        (λ e. (let named = named-temporary k u (mapped_at_lem k h.mapped n) (leb-false variables u e) in
        safe_kept_given records u (remembered_perm (record_at records u) v)
        (remembered_goes (record_at records u) k u (record_at records u).allocation (record_fits k h.recorded u named.0).alloc
        named.1 v)))

    safe_made_by_given : (marked : Option MarkedSafe) (n : ℕ) → GoesOn marked → SafeGiven P (safe_made_by marked records mappings n v)
    safe_made_by_given (Some (Safe variable)) n goes = none
    safe_made_by_given (Some FromTemporary) n goes = remembered_given n
    safe_made_by_given None n goes = absurd goes

    safe_made_given :
        (n : ℕ) (level : Level) (context : GenContext) (branch : Branch)
        → SafeGiven P (safe_made records mappings n v level context branch)
    unfolding safe_made
    safe_made_given n level context branch =
        safe_made_by_given (marked_safe (record_at records v) level context branch) n
        (safe_goes (record_at records v) (record_at records v).allocation settled level context branch)

    argument_made_given :
        (target : Target) (level : Level) (context : GenContext) (place : RegType) (is_new : Bool) (branch : Branch) (code : CodeDeque)
        → StepGiven P (argument_made c records mappings target level context v place is_new branch code)
    unfolding argument_made
    argument_made_given target level context place is_new branch code =
        let variable = record_at records v in
        either (StepGiven P) (in_place variable context place c.arg_c) none
        (either (StepGiven P) is_new
        (instructed_given c code (safe_made records mappings c.arg_c v level context branch).refusal _
        (safe_made_given c.arg_c level context branch))
        (value_given c records v (argument_value variable target place c.arg_c c.in_tail_position branch) code
        (argument_goes variable variable.allocation settled target place c.arg_c c.in_tail_position branch)))

    pub subterm_made_given :
        (s : VariableSets) (target : Target) (context : GenContext) (place : RegType) (is_new : Bool) (branch : Branch) (code : CodeDeque)
        → StepGiven P (subterm_made c records mappings s target context v place is_new branch code)
    unfolding subterm_made
    subterm_made_given s target context place is_new branch code =
        let variable = record_at records v in
        either (StepGiven P) (met records s context v place is_new)
        (value_given c records v (subterm_value variable target place branch) code
        (subterm_goes variable variable.allocation settled target place branch))
        (instructed_given c code (safe_made records mappings c.arg_c v Deep context branch).refusal _
        (safe_made_given c.arg_c Deep context branch))

  -- ---- The evacuation

  module _ (register : P refused_register) where
    evacuated_by_given :
        (t : Hint) (c : Counters) (records mappings : List ℕ) (code : CodeDeque)
        → EvacuationGiven P (evacuated_by t c records mappings code)
    unfolding evacuated_by moved_to
    evacuated_by_given Stays c records mappings code = none
    evacuated_by_given Nowhere c records mappings code = register
    evacuated_by_given (Moves v r) c records mappings code = either (EvacuationGiven P) (eqb r c.arg_c) none none

    pub evacuated_given :
        (c : Counters) (records mappings : List ℕ) (s : VariableSets) (chunk : ℕ) (code : CodeDeque)
        → EvacuationGiven P (evacuated c records mappings s chunk code)
    unfolding evacuated
    evacuated_given c records mappings s chunk code = evacuated_by_given (hint c records mappings s chunk) c records mappings code

    others_out_given :
        (c : Counters) (records mappings : List ℕ) (s : VariableSets) (v chunk : ℕ) (code : CodeDeque)
        → EvacuationGiven P (others_out c records mappings s v chunk code)
    unfolding others_out
    others_out_given c records mappings s v chunk code =
        let u = mapped_at mappings c.arg_c in
        either (EvacuationGiven P) (leb variables u) none
        (either (EvacuationGiven P) (eqb u v) none (evacuated_given c records mappings s chunk code))

-- ---- Who is settled stays so

module _ (v : ℕ) where
  abbrev pub EvacuationSettled : Evacuation → Type 0
  EvacuationSettled e = SettledIn v e.records

  module _ {records : List ℕ} (every : SettledIn v records) where
    moved_settled : (c : Counters) (mappings : List ℕ) (code : CodeDeque) (u r : ℕ) → EvacuationSettled (moved_to c records mappings code u r)
    unfolding moved_to
    moved_settled c mappings code u r = settled_placed v every u r

    evacuated_by-settled :
        (t : Hint) (c : Counters) (mappings : List ℕ) (code : CodeDeque) → EvacuationSettled (evacuated_by t c records mappings code)
    unfolding evacuated_by
    evacuated_by-settled Stays c mappings code = every
    evacuated_by-settled Nowhere c mappings code = every
    evacuated_by-settled (Moves u r) c mappings code =
        either EvacuationSettled (eqb r c.arg_c) every (moved_settled c mappings code u r)

    pub evacuated-settled :
        (c : Counters) (mappings : List ℕ) (s : VariableSets) (chunk : ℕ) (code : CodeDeque)
        → EvacuationSettled (evacuated c records mappings s chunk code)
    unfolding evacuated
    evacuated-settled c mappings s chunk code = evacuated_by-settled (hint c records mappings s chunk) c mappings code

    others_out-settled :
        (c : Counters) (mappings : List ℕ) (s : VariableSets) (chunk : ℕ) (code : CodeDeque)
        → EvacuationSettled (others_out c records mappings s v chunk code)
    unfolding others_out
    others_out-settled c mappings s chunk code =
        let u = mapped_at mappings c.arg_c in
        either EvacuationSettled (leb variables u) every
        (either EvacuationSettled (eqb u v) every (evacuated-settled c mappings s chunk code))

-- ---- A variable as an argument

module _ (P : Option Refusal → Type 0) (none : P accepted) (register : P refused_register) (k : Kinds) (s : VariableSets) (fit : Uses k s.use_sets s.use_counts)
    (v : ℕ) (known : v < k.count) where
  marked_after_given :
      {queue freed rows sets : List ℕ} (e : Evacuation) → EvacuationValid k queue freed rows sets e → EvacuationSettled v e → EvacuationGiven P e
      → (target : Target) (level : Level) (context : GenContext) (place : RegType) (is_new : Bool) (branch : Branch)
      → EvacuationGiven P (marked_after e target level context v place is_new branch)
  unfolding marked_after
  marked_after_given e h every given target level context place is_new branch =
      either (EvacuationGiven P) (is_refused e.reached.refusal) given
      (advanced_given P none
      (argument_made e.reached.counters e.records e.mappings target level context v place is_new branch e.reached.code).reached
      (argument_made_given P none k h v (settled_at v every (omega (arith, k.small))) target level context place is_new branch e.reached.code))

  pub argument_marked_given :
      {c : Counters} {records mappings queue freed rows sets : List ℕ} → Valid k c records mappings queue freed rows sets → SettledIn v records
      → (target : Target) (level : Level) (context : GenContext) (place : RegType) (is_new : Bool) (branch : Branch) (code : CodeDeque)
      → EvacuationGiven P (argument_marked c records mappings s target level context v place is_new branch code)
  unfolding argument_marked
  argument_marked_given {c} {records} {mappings} h every target level context place is_new branch code =
      let chunk = chunk_num context in
      marked_after_given (others_out c records mappings s v chunk code) (others_out_valid k s fit v known h chunk code)
      (others_out-settled v every c mappings s chunk code) (others_out_given P none register c records mappings s v chunk code)
      target level context place is_new branch

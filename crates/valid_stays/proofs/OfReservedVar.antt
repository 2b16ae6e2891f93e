-- A valid state stays valid where an instruction is made for a variable.
use Rattle.std.specs.Prelude.{ℕ, ◌<◌, Bool, List, eqb, leb, Option, Some, None}
use Rattle.std.proofs.Common.{leb-false}
use Rattle.notation.specs.ChoiceLaws.{either, by_test}
use Rattle.refusals.specs.declared.Refusal.{Refusal}
use Rattle.refusals.specs.Refusals.{is_refused, accepted}
use Rattle.sizes.specs.Sizes.{variables}
use Rattle.forms.specs.Forms.{chunk_num}
use Rattle.forms.specs.declared.Branch.{Branch}
use Rattle.forms.specs.declared.GenContext.{GenContext}
use Rattle.forms.specs.declared.Level.{Level}
use Rattle.forms.specs.declared.Level.TheVariants.{Deep}
use Rattle.registers.specs.declared.RegType.{RegType}
use Rattle.instructions.specs.declared.Instruction.{Instruction}
use Rattle.targets.specs.declared.Target.{Target}
use Rattle.code_deque.specs.declared.CodeDeque.{CodeDeque}
use Rattle.variable_records.specs.declared.VariableRecord.{VariableRecord}
use Rattle.variable_records.specs.Rows.{record_at}
use Rattle.shallow_temp_mappings.specs.Mappings.{mapped_at}
use Rattle.allocator_state.specs.declared.Counters.{Counters}
use Rattle.allocator_state.specs.State.{counter_after}
use Rattle.evacuation.specs.declared.Reached.{Reached}
use Rattle.restricting_sets.specs.declared.VariableSets.{VariableSets}
use Rattle.evacuation.specs.Evacuation.{Evacuation}
use Rattle.record_marks.specs.declared.MarkedSafe.{MarkedSafe}
use Rattle.record_marks.specs.declared.MarkedSafe.TheVariants.{Safe, FromTemporary}
use Rattle.record_marks.specs.declared.Valued.{Valued}
use Rattle.record_marks.specs.RecordMarks.{in_place, marked_safe, argument_value, subterm_value, remembered_perm}
use Rattle.reserved_var.specs.ReservedVar.{SafeStep, safe_kept, remembered, safe_made_by, safe_made, Step, instructed_after, value_kept, argument_made, met, subterm_made}
use Rattle.reserved_var.specs.ReservedVar.{others_out, advanced_by, marked_after, argument_marked}
use Rattle.valid_stays.specs.Fits.{Kinds, Valid, Uses}
use Rattle.valid_stays.proofs.RecordsFit.{record_fits}
use Rattle.valid_stays.proofs.TablesFit.{counter_after_lem, mapped_at_lem, named-temporary}
use Rattle.valid_stays.proofs.Steps.{put_valid, argument_valid}
use Rattle.valid_stays.proofs.OfEvacuation.{EvacuationValid, evacuated_valid}
use Rattle.valid_stays.proofs.OfRecordMarks.{MadeFits, SafeFits, ValueFits, argument_fits, subterm_fits, safe_fits, remembered-fits}

module _ (k : Kinds) (records mappings queue freed rows sets : List ℕ) where
  abbrev pub ReachedValid : Reached → Type 0
  ReachedValid reached = Valid k reached.counters records mappings queue freed rows sets

module _ (k : Kinds) (mappings queue freed rows sets : List ℕ) where
  abbrev SafeValid : Counters → SafeStep → Type 0
  SafeValid c s = Valid k c s.records mappings queue freed rows sets

  abbrev pub StepValid : Step → Type 0
  StepValid s = Valid k s.reached.counters s.records mappings queue freed rows sets

module _ (k : Kinds) {c : Counters} {records mappings queue freed rows sets : List ℕ} (h : Valid k c records mappings queue freed rows sets) where
  instructed_valid :
      (code : CodeDeque) (refusal : Option Refusal) (instruction : Instruction)
      → ReachedValid k records mappings queue freed rows sets (instructed_after c code refusal instruction)
  unfolding instructed_after
  instructed_valid code refusal instruction = either (ReachedValid k records mappings queue freed rows sets) (is_refused refusal) h h

  -- the argument counter's next number
  pub advanced_valid :
      (reached : Reached) → ReachedValid k records mappings queue freed rows sets reached
      → ReachedValid k records mappings queue freed rows sets (advanced_by reached)
  unfolding advanced_by
  advanced_valid reached r =
      either (ReachedValid k records mappings queue freed rows sets) (is_refused reached.refusal) r
      (argument_valid k r (counter_after reached.counters.arg_c) (counter_after_lem reached.counters.arg_c))

module _ (k : Kinds) {c : Counters} {records mappings queue freed rows sets : List ℕ} (h : Valid k c records mappings queue freed rows sets)
    (v : ℕ) (known : v < k.count) where
  -- ---- Made safe

  safe_kept_valid :
      (u : ℕ) → u < k.count → (made : Option VariableRecord) → MadeFits k u made
      → SafeValid k mappings queue freed rows sets c (safe_kept records u made)
  safe_kept_valid u there (Some variable) fits = put_valid k h u there variable fits
  safe_kept_valid u there None fits = h

  remembered_valid : (n : ℕ) → SafeValid k mappings queue freed rows sets c (remembered records mappings n v)
  unfolding remembered
  remembered_valid n =
      let u = mapped_at mappings n in
      by_test (SafeValid k mappings queue freed rows sets c) (leb variables u) (λ e. h)
      (λ e. (let there = (named-temporary k u (mapped_at_lem k h.mapped n) (leb-false variables u e)).0 in
      safe_kept_valid u there (remembered_perm (record_at records u) v)
      (remembered-fits k u (record_at records u) (record_fits k h.recorded u there) v known)))

  safe_made_by_valid :
      (marked : Option MarkedSafe) (n : ℕ) → SafeFits k v marked
      → SafeValid k mappings queue freed rows sets c (safe_made_by marked records mappings n v)
  safe_made_by_valid (Some (Safe variable)) n fits = put_valid k h v known variable fits
  safe_made_by_valid (Some FromTemporary) n fits = remembered_valid n
  safe_made_by_valid None n fits = h

  safe_made_valid :
      (n : ℕ) (level : Level) (context : GenContext) (branch : Branch)
      → SafeValid k mappings queue freed rows sets c (safe_made records mappings n v level context branch)
  unfolding safe_made
  safe_made_valid n level context branch =
      safe_made_by_valid (marked_safe (record_at records v) level context branch) n
      (safe_fits k v (record_at records v) (record_fits k h.recorded v known) level context branch)

  -- ---- The instruction

  value_valid :
      (valued : Option Valued) (code : CodeDeque) → ValueFits k v valued
      → StepValid k mappings queue freed rows sets (value_kept c records v valued code)
  value_valid (Some valued) code fits = instructed_valid k (put_valid k h v known valued.variable fits) code accepted valued.instruction
  value_valid None code fits = h

  argument_made_valid :
      (target : Target) (level : Level) (context : GenContext) (place : RegType) (is_new : Bool) (branch : Branch) (code : CodeDeque)
      → StepValid k mappings queue freed rows sets (argument_made c records mappings target level context v place is_new branch code)
  unfolding argument_made
  argument_made_valid target level context place is_new branch code =
      let StepFits = StepValid k mappings queue freed rows sets in
      either StepFits (in_place (record_at records v) context place c.arg_c) h
      (either StepFits is_new (instructed_valid k (safe_made_valid c.arg_c level context branch) code _ _)
      (value_valid (argument_value (record_at records v) target place c.arg_c c.in_tail_position branch) code
      (argument_fits k v (record_at records v) (record_fits k h.recorded v known) target place c.arg_c c.in_tail_position branch)))

  pub subterm_made_valid :
      (s : VariableSets) (target : Target) (context : GenContext) (place : RegType) (is_new : Bool) (branch : Branch) (code : CodeDeque)
      → StepValid k mappings queue freed rows sets
      (subterm_made c records mappings s target context v place is_new branch code)
  unfolding subterm_made
  subterm_made_valid s target context place is_new branch code =
      either (StepValid k mappings queue freed rows sets) (met records s context v place is_new)
      (value_valid (subterm_value (record_at records v) target place branch) code
      (subterm_fits k v (record_at records v) (record_fits k h.recorded v known) target place branch))
      (instructed_valid k (safe_made_valid c.arg_c Deep context branch) code _ _)

-- ---- A variable as an argument

module _ (k : Kinds) (s : VariableSets) (fit : Uses k s.use_sets s.use_counts) (v : ℕ) (known : v < k.count) where
  module _ {c : Counters} {records mappings queue freed rows sets : List ℕ} (h : Valid k c records mappings queue freed rows sets) where
    pub others_out_valid : (chunk : ℕ) (code : CodeDeque) → EvacuationValid k queue freed rows sets (others_out c records mappings s v chunk code)
    unfolding others_out
    others_out_valid chunk code =
        let Fits = EvacuationValid k queue freed rows sets in
        either Fits (leb variables (mapped_at mappings c.arg_c)) h
        (either Fits (eqb (mapped_at mappings c.arg_c) v) h (evacuated_valid k s fit h chunk code))

  module _ {queue freed rows sets : List ℕ} where
    marked_after_valid :
        (e : Evacuation) → EvacuationValid k queue freed rows sets e
        → (target : Target) (level : Level) (context : GenContext) (place : RegType) (is_new : Bool) (branch : Branch)
        → EvacuationValid k queue freed rows sets (marked_after e target level context v place is_new branch)
    unfolding marked_after
    marked_after_valid e h target level context place is_new branch =
        either (EvacuationValid k queue freed rows sets) (is_refused e.reached.refusal) h
        (let made = argument_made_valid k h v known target level context place is_new branch e.reached.code in
        advanced_valid k made _ made)

  pub argument_marked_valid :
      {c : Counters} {records mappings queue freed rows sets : List ℕ} → Valid k c records mappings queue freed rows sets
      → (target : Target) (level : Level) (context : GenContext) (place : RegType) (is_new : Bool) (branch : Branch) (code : CodeDeque)
      → EvacuationValid k queue freed rows sets (argument_marked c records mappings s target level context v place is_new branch code)
  unfolding argument_marked
  argument_marked_valid {c} {records} {mappings} h target level context place is_new branch code =
      marked_after_valid (others_out c records mappings s v (chunk_num context) code) (others_out_valid h (chunk_num context) code)
      target level context place is_new branch

-- Laws of the instructions that a mark's steps make: each step puts its own behind those that were there, and leaves none out.
use Rattle.std.specs.Prelude.{ℕ, ◌+◌, ◌≤◌, ◌<◌, ◌≡◌, Bool, true, false, ◌⊎◌, eqb, leb, Option, Some, None}
use Rattle.std.proofs.Math.Path.{refl, ap}
use Rattle.std.proofs.Common.{sym, ◌∙◌, inl, inr, arith, length-append}
use mathlib.Core.List.{List, [], ◌∷◌, ◌++◌, append-nil, append_assoc}
use Rattle.std.proofs.Math.ListN.{length}
use Rattle.std.specs.Prelude.{if◌then◌else◌}
use Rattle.sizes.specs.Sizes.{variables}
use Rattle.refusals.specs.Refusals.{accepted}
use Rattle.registers.specs.declared.RegType.{RegType}
use Rattle.registers.specs.declared.RegType.TheVariants.{Temp as TempRegister}
use Rattle.instructions.specs.declared.Instruction.{Instruction}
use Rattle.instructions.specs.declared.Instruction.TheVariants.{GetVariable}
use Rattle.targets.specs.declared.Target.{Target}
use Rattle.targets.specs.Targets.{argument_to_variable, subterm_to_variable}
use Rattle.code_deque.specs.declared.CodeDeque.{CodeDeque}
use Rattle.code_deque.specs.declared.CodeDeque.TheVariants.{Empty}
use Rattle.code_deque.specs.CodeDeque.{code_list}
use Rattle.forms.specs.declared.Branch.{Branch}
use Rattle.forms.specs.declared.GenContext.{GenContext}
use Rattle.forms.specs.declared.GenContext.TheVariants.{Head as InHead, Mid, Last}
use Rattle.forms.specs.declared.Level.{Level}
use Rattle.forms.specs.declared.Level.TheVariants.{Root, Shallow, Deep}
use Rattle.forms.specs.Forms.{chunk_num}
use Rattle.variable_records.specs.Rows.{record_at}
use Rattle.shallow_temp_mappings.specs.Mappings.{mapped_at}
use Rattle.allocator_state.specs.declared.Counters.{Counters}
use Rattle.evacuation.specs.declared.Hint.{Hint}
use Rattle.evacuation.specs.declared.Hint.TheVariants.{Stays, Moves, NoRegister as Nowhere}
use Rattle.evacuation.specs.declared.Reached.{Reached}
use Rattle.restricting_sets.specs.declared.VariableSets.{VariableSets}
use Rattle.evacuation.specs.Evacuation.{Evacuation, hint, moved_to, evacuated_by, evacuated, alloc_with_cr, alloc_with_ca, going_on}
use Rattle.record_marks.specs.declared.Valued.{Valued}
use Rattle.record_marks.specs.RecordMarks.{in_place, argument_value, subterm_value}
use Rattle.reserved_var.specs.ReservedVar.{safe_made, instructed_after, value_kept, argument_made, met, subterm_made}
use Rattle.reserved_var.specs.ReservedVar.{others_out, advanced_by, marked_after, argument_marked}
use Rattle.marks.specs.Marks.{RegisterPlacement, chosen_or_refused, alloc_apart, after_evacuation, alloc_shallow, register_placed}
use Rattle.reserved_var.specs.declared.Mark.{Mark}
use Rattle.mark_var.specs.MarkVar.{instructed_at}
use Rattle.rules.specs.StepsLaws.{either_way}
use Rattle.rules.specs.InstructionsMade.{unless_after, move_makes, evacuation_makes, placing_makes, others_make, value_makes, argument_makes, subterm_makes}
use Rattle.rules.specs.InstructionsMade.{after_makes, argument_mark_makes, level_makes}
use Rattle.rules.specs.MadeLaws.{made, pushed-below_three, Behind, BehindReached, BehindStep, BehindEvacuation, Alike}
use Rattle.refusals.specs.Refusals.{is_refused}
use Rattle.refusals.specs.declared.Refusal.{Refusal}

pub none-behind : (code : CodeDeque) → Behind code [] code
none-behind code = sym (append-nil (code_list code))

pub behind-both :
    (before one other : List Instruction) {between after : List Instruction} → between ≡ before ++ one → after ≡ between ++ other
    → after ≡ before ++ (one ++ other)
behind-both before one other p q = q ∙ ap (λ (l : List Instruction). l ++ other) p ∙ append_assoc before one other

pub made-behind :
    (before instructions : List Instruction) {after : List Instruction} → after ≡ before ++ instructions
    → length after ≡ length before + length instructions
made-behind before instructions p = ap length p ∙ length-append before instructions

-- what holds of both pairs holds of the pair that a test chooses
pub both_ways :
    {A B : Type 0} (P : A → B → Type 0) (t : Bool) {a b : A} {x y : B} → P a x → P b y
    → P (if t then a else b) (if t then x else y)
both_ways P true one other = one
both_ways P false one other = other

-- ---- Evacuation

move-one : (moving : Hint) (c : Counters) → (move_makes moving c ≡ []) ⊎ ((r : ℕ) × (move_makes moving c ≡ GetVariable (TempRegister r) c.arg_c ∷ []))
move-one Stays c = inl refl
move-one Nowhere c = inl refl
move-one (Moves v r) c =
    either_way (λ (l : List Instruction). (l ≡ []) ⊎ ((r : ℕ) × (l ≡ GetVariable (TempRegister r) c.arg_c ∷ [])))
    (eqb r c.arg_c) (inl refl) (inr (r, refl))

move_short : (moving : Hint) (c : Counters) → length (move_makes moving c) ≤ 1
move_short Stays c = omega arith
move_short Nowhere c = omega arith
move_short (Moves v r) c = either_way (λ (l : List Instruction). length l ≤ 1) (eqb r c.arg_c) (omega arith) (omega arith)

module _ (c : Counters) (records mappings : List ℕ) (s : VariableSets) where
  -- an evacuation makes nothing, or one get_variable
  pub evacuation-one :
      (chunk : ℕ)
      → (evacuation_makes c records mappings s chunk ≡ [])
      ⊎ ((r : ℕ) × (evacuation_makes c records mappings s chunk ≡ GetVariable (TempRegister r) c.arg_c ∷ []))
  unfolding evacuation_makes
  evacuation-one chunk = move-one (hint c records mappings s chunk) c

  pub evacuation_short : (chunk : ℕ) → length (evacuation_makes c records mappings s chunk) ≤ 1
  unfolding evacuation_makes
  evacuation_short chunk = move_short (hint c records mappings s chunk) c

  module _ (code : CodeDeque) (room : made code < 3) where
    evacuated_by-behind : (moving : Hint) → Behind code (move_makes moving c) (evacuated_by moving c records mappings code).reached.code
    unfolding evacuated_by moved_to
    evacuated_by-behind Stays = none-behind code
    evacuated_by-behind Nowhere = none-behind code
    evacuated_by-behind (Moves v r) =
        both_ways (λ (e : Evacuation) (l : List Instruction). Behind code l e.reached.code) (eqb r c.arg_c)
        (none-behind code)
        (pushed-below_three code (GetVariable (TempRegister r) c.arg_c) room)

    pub evacuated-behind :
        (chunk : ℕ) → Behind code (evacuation_makes c records mappings s chunk) (evacuated c records mappings s chunk code).reached.code
    unfolding evacuated evacuation_makes
    evacuated-behind chunk = evacuated_by-behind (hint c records mappings s chunk)

    -- so it makes one at most
    pub evacuated-made : (chunk : ℕ) → made (evacuated c records mappings s chunk code).reached.code ≤ made code + 1
    evacuated-made chunk =
        omega (
          arith,
          made-behind (code_list code) (evacuation_makes c records mappings s chunk) (evacuated-behind chunk),
          evacuation_short chunk,
        )

-- ---- A register for a new temporary

chosen-code : (reached : Reached) (choice : Option ℕ) → (chosen_or_refused reached choice).reached.code ≡ reached.code
chosen-code reached (Some r) = refl
chosen-code reached None = refl

module _ (s : VariableSets) (v : ℕ) where
  apart_code : (c : Counters) (code : CodeDeque) → (alloc_apart c s v code).reached.code ≡ code
  unfolding alloc_apart
  apart_code c code = chosen-code (going_on c code) (alloc_with_ca c s v)

  after_evacuation-code : (e : Evacuation) → (after_evacuation e s v).placed.reached.code ≡ e.reached.code
  unfolding after_evacuation
  after_evacuation-code e =
      either_way (λ (p : RegisterPlacement). p.placed.reached.code ≡ e.reached.code) (is_refused e.reached.refusal)
      refl
      (chosen-code e.reached (alloc_with_cr e.reached.counters s v))

  module _ (c : Counters) (records mappings : List ℕ) (code : CodeDeque) (room : made code < 3) where
    apart_behind : Behind code [] (alloc_apart c s v code).reached.code
    apart_behind = ap code_list (apart_code c code) ∙ none-behind code

    shallow_behind :
        (chunk : ℕ)
        → Behind code (evacuation_makes c records mappings s chunk) (alloc_shallow c records mappings s v chunk code).placed.reached.code
    unfolding alloc_shallow
    shallow_behind chunk =
        ap code_list (after_evacuation-code (evacuated c records mappings s chunk code))
        ∙ evacuated-behind c records mappings s code room chunk

    pub register-behind :
        (level : Level) (context : GenContext)
        → Behind code (placing_makes c records mappings s level context) (register_placed c records mappings s v level context code).placed.reached.code
    register-behind Root context = apart_behind
    register-behind Deep context = apart_behind
    register-behind Shallow (Mid chunk) = apart_behind
    register-behind Shallow InHead = shallow_behind 0
    register-behind Shallow (Last chunk) = shallow_behind chunk

-- ---- A variable's own instruction

module _ (code : CodeDeque) (room : made code < 3) (c : Counters) where
  instructed-behind :
      (refusal : Option Refusal) (i : Instruction) → BehindReached code (instructed_after c code refusal i) (unless_after refusal (i ∷ []))
  unfolding instructed_after
  instructed-behind refusal i = both_ways (BehindReached code) (is_refused refusal) (none-behind code) (pushed-below_three code i room)

  module _ (records : List ℕ) (v : ℕ) where
    value-behind : (valued : Option Valued) → BehindStep code (value_kept c records v valued code) (value_makes valued)
    value-behind (Some valued) = instructed-behind accepted valued.instruction
    value-behind None = none-behind code

    module _ (mappings : List ℕ) (target : Target) (context : GenContext) (place : RegType) (is_new : Bool) (branch : Branch) where
      argument_behind :
          (level : Level)
          → BehindStep code
          (argument_made c records mappings target level context v place is_new branch code)
          (argument_makes c records mappings target level context v place is_new branch)
      unfolding argument_made argument_makes
      argument_behind level =
          both_ways (BehindStep code) (in_place (record_at records v) context place c.arg_c) (none-behind code)
          (both_ways (BehindStep code) is_new
          (instructed-behind (safe_made records mappings c.arg_c v level context branch).refusal (argument_to_variable target place c.arg_c))
          (value-behind (argument_value (record_at records v) target place c.arg_c c.in_tail_position branch)))

      subterm_behind :
          (s : VariableSets)
          → BehindStep code
          (subterm_made c records mappings s target context v place is_new branch code)
          (subterm_makes c records mappings s target context v place is_new branch)
      unfolding subterm_made subterm_makes
      subterm_behind s =
          both_ways (BehindStep code) (met records s context v place is_new)
          (value-behind (subterm_value (record_at records v) target place branch))
          (instructed-behind (safe_made records mappings c.arg_c v Deep context branch).refusal (subterm_to_variable target place))

-- ---- A variable as an argument

pub advanced-code : (reached : Reached) → (advanced_by reached).code ≡ reached.code
unfolding advanced_by
advanced-code reached = either_way (λ (r : Reached). r.code ≡ reached.code) (is_refused reached.refusal) refl refl

module _ (c : Counters) (records mappings : List ℕ) (s : VariableSets) (v chunk : ℕ) where
  others_short : length (others_make c records mappings s v chunk) ≤ 1
  unfolding others_make
  others_short =
      either_way (λ (l : List Instruction). length l ≤ 1) (leb variables (mapped_at mappings c.arg_c)) (omega arith)
      (either_way (λ (l : List Instruction). length l ≤ 1) (eqb (mapped_at mappings c.arg_c) v) (omega arith)
      (evacuation_short c records mappings s chunk))

  others-behind :
      (code : CodeDeque) → made code < 3
      → BehindEvacuation code (others_out c records mappings s v chunk code) (others_make c records mappings s v chunk)
  unfolding others_out others_make
  others-behind code room =
      both_ways (BehindEvacuation code) (leb variables (mapped_at mappings c.arg_c)) (none-behind code)
      (both_ways (BehindEvacuation code) (eqb (mapped_at mappings c.arg_c) v) (none-behind code)
      (evacuated-behind c records mappings s code room chunk))

  -- one evacuation more at most before an argument's own instruction
  pub others-made : (code : CodeDeque) → made code < 3 → made (others_out c records mappings s v chunk code).reached.code ≤ made code + 1
  others-made code room =
      omega (arith, made-behind (code_list code) (others_make c records mappings s v chunk) (others-behind code room), others_short)

  -- whatever was made before, the evacuation does the same
  module _ (code : CodeDeque) where
    evacuated_by_alike : (moving : Hint) → Alike (evacuated_by moving c records mappings code) (evacuated_by moving c records mappings Empty)
    unfolding evacuated_by moved_to
    evacuated_by_alike Stays = (refl, refl, refl, refl)
    evacuated_by_alike Nowhere = (refl, refl, refl, refl)
    evacuated_by_alike (Moves w r) = both_ways Alike (eqb r c.arg_c) (refl, refl, refl, refl) (refl, refl, refl, refl)

    evacuated_alike : Alike (evacuated c records mappings s chunk code) (evacuated c records mappings s chunk Empty)
    unfolding evacuated
    evacuated_alike = evacuated_by_alike (hint c records mappings s chunk)

    others_alike : Alike (others_out c records mappings s v chunk code) (others_out c records mappings s v chunk Empty)
    unfolding others_out
    others_alike =
        both_ways Alike (leb variables (mapped_at mappings c.arg_c)) (refl, refl, refl, refl)
        (both_ways Alike (eqb (mapped_at mappings c.arg_c) v) (refl, refl, refl, refl) evacuated_alike)

module _ (target : Target) (level : Level) (context : GenContext) (v : ℕ) (place : RegType) (is_new : Bool) (branch : Branch) where
  after-behind :
      (e : Evacuation) → made e.reached.code < 3
      → BehindEvacuation e.reached.code
      (marked_after e target level context v place is_new branch)
      (after_makes e target level context v place is_new branch)
  unfolding marked_after after_makes
  after-behind e room =
      both_ways (BehindEvacuation e.reached.code) (is_refused e.reached.refusal) (none-behind e.reached.code)
      (ap code_list (advanced-code _)
      ∙ argument_behind e.reached.code room e.reached.counters e.records v e.mappings target context place is_new branch level)

  after_alike :
      (e f : Evacuation) → Alike e f
      → after_makes e target level context v place is_new branch ≡ after_makes f target level context v place is_new branch
  unfolding after_makes
  after_alike e f same = simp (same.0, same.1, same.2, same.3)

module _ (c : Counters) (records mappings : List ℕ) (s : VariableSets) (mark : Mark) (place : RegType) (is_new : Bool) (branch : Branch) where
  module _ (code : CodeDeque) (room : made code ≤ 1) where
    argument_marked-behind :
        (level : Level)
        → BehindEvacuation code
        (argument_marked c records mappings s mark.target level mark.context mark.variable place is_new branch code)
        (argument_mark_makes c records mappings s mark level place is_new branch)
    unfolding argument_marked argument_mark_makes
    argument_marked-behind level =
        let chunk = chunk_num mark.context in
        let e = others_out c records mappings s mark.variable chunk code in
        let made-before = others-made c records mappings s mark.variable chunk code (omega arith) in
        behind-both
        (code_list code)
        (others_make c records mappings s mark.variable chunk)
        (after_makes (others_out c records mappings s mark.variable chunk Empty) mark.target level mark.context mark.variable place is_new branch)
        (others-behind c records mappings s mark.variable chunk code (omega arith))
        (after-behind mark.target level mark.context mark.variable place is_new branch e (omega (arith, made-before))
        ∙ ap (λ (l : List Instruction). code_list e.reached.code ++ l)
        (after_alike mark.target level mark.context mark.variable place is_new branch e _
        (others_alike c records mappings s mark.variable chunk code)))

    pub level-behind :
        (level : Level)
        → BehindEvacuation code
        (instructed_at level c records mappings s mark place is_new branch code)
        (level_makes c records mappings s mark level place is_new branch)
    level-behind Deep =
        subterm_behind code (omega arith) c records mark.variable mappings mark.target mark.context place is_new branch s
    level-behind Root = argument_marked-behind Root
    level-behind Shallow = argument_marked-behind Shallow

-- No instruction is left out. `pushed` keeps three at most; a mark makes two evacuations at most, one get_variable each at
-- most, and its own instruction, so that it never meets a fourth.
use Rattle.std.specs.Prelude.{ℕ, ◌+◌, ◌≤◌, ◌<◌, ◌≡◌, refl, List, [], ◌∷◌, ◌++◌, ◌⊎◌, length}
use Rattle.std.proofs.Common.{ap, ◌∙◌, append-nil, inl, inr, arith}
use Rattle.registers.specs.declared.RegType.TheVariants.{Temp as TempRegister}
use Rattle.instructions.specs.declared.Instruction.{Instruction}
use Rattle.instructions.specs.declared.Instruction.TheVariants.{GetVariable}
use Rattle.code_deque.specs.declared.CodeDeque.{CodeDeque}
use Rattle.code_deque.specs.declared.CodeDeque.TheVariants.{Empty, One, Two, Three}
use Rattle.code_deque.specs.CodeDeque.{code_list}
use Rattle.forms.specs.declared.GenContext.{GenContext}
use Rattle.forms.specs.declared.Level.{Level}
use Rattle.forms.specs.Forms.{chunk_num}
use Rattle.allocator_state.specs.declared.Counters.{Counters}
use Rattle.restricting_sets.specs.declared.VariableSets.{VariableSets}
use Rattle.evacuation.specs.Evacuation.{evacuated}
use Rattle.reserved_var.specs.ReservedVar.{others_out}
use Rattle.marks.specs.Marks.{register_placed}
use Rattle.events.specs.declared.Event.{Event}
use Rattle.events.specs.declared.Event.TheVariants.{Temp, Perm, Sets as PopulateSets, Head, Args, Var, Anon, NonVar, Cut, Incr, Free, Safe, Give, Tail, Next, Open, Arm, Take, Close, Reset, Contents, ClearFree}
use Rattle.debray_allocator.specs.declared.State.{State}
use Rattle.debray_allocator.specs.declared.Answer.{Answer}
use Rattle.debray_allocator.specs.DebrayAllocator.{carried_out, stepped}
use Rattle.rules.specs.LineLaws.{stepped_carries}
use Rattle.rules.specs.InstructionsMade.{evacuation_makes, event_makes}
use Rattle.rules.specs.MadeLaws.{made}
use Rattle.rules.proofs.BehindLaws.{evacuation-one, evacuated-behind, evacuated-made, others-made}
use Rattle.rules.proofs.MarksMadeLaws.{register-made, var_made, anon_made, non_var-made, cut_made}
use Rattle.std.specs.Prelude.{None}

code_short : (code : CodeDeque) → made code ≤ 3
code_short Empty = omega arith
code_short (One f) = omega arith
code_short (Two f g) = omega arith
code_short (Three f g h) = omega arith

-- ---- Where a mark meets `pushed`, there are fewer than three

-- all behind the others, where all are none or one
none_or_one :
    (before instructions : List Instruction) {after : List Instruction} → after ≡ before ++ instructions
    → (k : ℕ) → (instructions ≡ []) ⊎ ((r : ℕ) × (instructions ≡ GetVariable (TempRegister r) k ∷ []))
    → (after ≡ before) ⊎ ((r : ℕ) × (after ≡ before ++ (GetVariable (TempRegister r) k ∷ [])))
none_or_one before instructions behind k (inl none) =
    inl (behind ∙ ap (λ (l : List Instruction). before ++ l) none ∙ append-nil before)
none_or_one before instructions behind k (inr (r, one)) =
    inr (r, behind ∙ ap (λ (l : List Instruction). before ++ l) one)

module _ (c : Counters) (records mappings : List ℕ) (s : VariableSets) where
  -- an evacuation makes nothing, or one get_variable
  pub evacuated_makes_one :
      (chunk : ℕ) (code : CodeDeque) → made code < 3
      → let after = (evacuated c records mappings s chunk code).reached.code in
      ((code_list after ≡ code_list code)
      ⊎ ((r : ℕ) × (code_list after ≡ code_list code ++ (GetVariable (TempRegister r) c.arg_c ∷ []))))
      × (made after ≤ made code + 1)
  evacuated_makes_one chunk code room =
      let behind = evacuated-behind c records mappings s code room chunk in (
        none_or_one (code_list code) (evacuation_makes c records mappings s chunk) behind c.arg_c (evacuation-one c records mappings s chunk),
        evacuated-made c records mappings s code room chunk,
      )

  -- a new temporary: before its register is chosen, and before its own instruction
  pub new_temporary_meets_fewer :
      (v : ℕ) (level : Level) (context : GenContext)
      → let p = register_placed c records mappings s v level context Empty in
      let emptied =
      others_out p.placed.reached.counters p.records p.mappings s v (chunk_num context) p.placed.reached.code in
      (made p.placed.reached.code ≤ 1) × (made emptied.reached.code ≤ 2)
  new_temporary_meets_fewer v level context =
      let p = register_placed c records mappings s v level context Empty in
      let one = register-made c records mappings s v level context in (
        one,
        omega (
          arith,
          one,
          others-made p.placed.reached.counters p.records p.mappings s v (chunk_num context) p.placed.reached.code (omega (arith, one)),
        ),
      )

  -- a variable that has a place, before its own instruction
  pub placed_variable_meets_fewer : (v chunk : ℕ) → made (others_out c records mappings s v chunk Empty).reached.code ≤ 1
  placed_variable_meets_fewer v chunk = others-made c records mappings s v chunk Empty (omega arith)

-- ---- A whole line

module _ (s : State) where
  -- what the event makes, all of it and in order
  pub nothing_left_out : (event : Event) (list : List ℕ) → code_list (carried_out s event list).code ≡ event_makes s event
  nothing_left_out (Temp context occurrences) list = refl
  nothing_left_out (Perm occurrences) list = refl
  nothing_left_out PopulateSets list = refl
  nothing_left_out Head list = refl
  nothing_left_out (Args count) list = refl
  nothing_left_out (Var target level context v) list =
      var_made s.sets s.freed_slots s.branches.rows s.branches.sets
      (record { target = target; level = level; context = context; variable = v })
      s.counters s.records s.mappings
  nothing_left_out (Anon target level context) list =
      anon_made s.counters s.records s.mappings s.sets s.freed_registers target level context
  nothing_left_out (NonVar level context cell) list =
      non_var-made s.counters s.records s.mappings s.sets s.freed_registers level context cell
  nothing_left_out (Cut v chunk) list =
      ap code_list (cut_made s.counters s.records s.freed_slots s.freed_registers v chunk)
  nothing_left_out (Incr v) list = refl
  nothing_left_out (Free chunk v) list = refl
  nothing_left_out (Safe v) list = refl
  nothing_left_out (Give r) list = refl
  nothing_left_out (Tail tail) list = refl
  nothing_left_out Next list = refl
  nothing_left_out (Open start span arms) list = refl
  nothing_left_out (Arm start span) list = refl
  nothing_left_out Take list = refl
  nothing_left_out (Close depth) list = refl
  nothing_left_out Reset list = refl
  nothing_left_out Contents list = refl
  nothing_left_out ClearFree list = refl

  pub line-has_all :
      (event : Event) (list : List ℕ) → (stepped s event list).refusal ≡ None
      → code_list (stepped s event list).code ≡ event_makes s event
  line-has_all event list accepted =
      ap (λ (a : Answer). code_list a.code) (stepped_carries s event list accepted).0
      ∙ nothing_left_out event list

  -- rule 16.2: an event makes three at most
  pub three_at_most : (event : Event) → length (event_makes s event) ≤ 3
  three_at_most event = omega (arith, ap length (nothing_left_out event []), code_short (carried_out s event []).code)

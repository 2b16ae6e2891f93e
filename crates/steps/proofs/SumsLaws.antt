-- Laws of an order that sums up the lines so far: it says of the next line what they say of it.
use Rattle.std.specs.Prelude.{ℕ, ◌≡◌, true, false, ◌&&◌, ◌||◌, List, [], ◌∷◌, leb}
use Rattle.std.proofs.Math.Path.{refl, ap, ap₂, sym}
use Rattle.std.proofs.Common.{◌∙◌, arith, leb-false, ne_eqb}
use Rattle.std.proofs.Math.Dec.{eqb}
use Rattle.std.specs.Prelude.{if◌then◌else◌}
use Rattle.refusals.specs.Refusals.{accepted, refused_order}
use Rattle.sizes.specs.Sizes.{steps, instructions}
use Rattle.bit_set.specs.BitSet.{has}
use Rattle.bit_set.specs.BitSetLaws.{has-empty, has-inserted}
use Rattle.instructions.specs.declared.Instruction.{Instruction}
use Rattle.steps.specs.declared.Step.{Step}
use Rattle.steps.specs.declared.Step.TheVariants.{Head, HeadDeep, Goal, GoalDeep, Call}
use Rattle.steps.specs.declared.CheckLine.{CheckLine}
use Rattle.steps.specs.declared.CheckLine.TheVariants.{Begins, Does}
use Rattle.steps.specs.declared.Order.{Order}
use Rattle.steps.specs.Steps.{steps_of, instructions_of, takes_number, past_head, in_goal, misplaced, number_taken, is_out_of_order, is_uncalled, fits, is_full, first_of, refusal_of}
use Rattle.steps.specs.Order.{goal_step, kind_of, misplaced_under, breaks_order, overfills, refusal_by, fresh_order, goal_after, following, judged, refusal_at_end}
use Rattle.steps.specs.OrderLaws.{none_refuses, judged_refusal, accepted_order, argument_and_variable_lem}
use Rattle.steps.specs.Sums.{last_kind, Sums}

-- ---- What it says of the next line, and of the end

misplaced_under_lem : (earlier : List Step) (instruction : Instruction) → misplaced_under (last_kind earlier) instruction ≡ misplaced earlier instruction
unfolding misplaced_under
misplaced_under_lem [] instruction = refl
misplaced_under_lem (Head k v ∷ earlier) instruction = refl
misplaced_under_lem (HeadDeep v ∷ earlier) instruction = refl
misplaced_under_lem (Goal k v ∷ earlier) instruction = refl
misplaced_under_lem (GoalDeep v ∷ earlier) instruction = refl
misplaced_under_lem (Call ∷ earlier) instruction = refl

module _ (order : Order) (earlier : List CheckLine) (s : Sums order earlier) where
  breaks_order_lem : (line : CheckLine) → breaks_order order line ≡ is_out_of_order earlier line
  breaks_order_lem (Begins (Head k v)) = s.past
  breaks_order_lem (Begins (HeadDeep v)) = s.past
  breaks_order_lem (Begins (Goal k v)) = s.goal k
  breaks_order_lem (Begins (GoalDeep v)) = refl
  breaks_order_lem (Begins Call) = refl
  breaks_order_lem (Does instruction) =
      ap₂ (λ kind taken. misplaced_under kind instruction || (taken && takes_number instruction)) s.kind s.taken
      ∙ ap (λ b. b || (number_taken (instructions_of earlier) && takes_number instruction)) (misplaced_under_lem (steps_of earlier) instruction)

  is_full_lem : (line : CheckLine) → overfills order line ≡ is_full earlier line
  is_full_lem (Begins step) = ap (leb steps) s.steps
  is_full_lem (Does instruction) = ap (leb instructions) s.instructions

  -- a line is refused as the lines so far say
  pub sums_refusal : (line : CheckLine) → (judged order line).refusal ≡ refusal_of earlier line
  unfolding refusal_by refusal_of
  sums_refusal line =
      judged_refusal order line ∙ ap₂ (λ out_of_order full. first_of out_of_order (fits line) full) (breaks_order_lem line) (is_full_lem line)

  pub sums_end : refusal_at_end order ≡ (if is_uncalled (steps_of earlier) then refused_order else accepted)
  unfolding refusal_at_end
  sums_end = ap (λ b. if b then refused_order else accepted) s.uncalled

-- ---- One line more

pub sums_none : Sums fresh_order []
unfolding steps_of instructions_of number_taken in_goal past_head is_uncalled
sums_none =
    record { steps = refl; kind = refl; instructions = refl; taken = refl; goal = has-empty; past = refl; uncalled = refl }

module _ (order : Order) (earlier : List CheckLine) (s : Sums order earlier) where
  -- a head step is accepted before all goal steps and calls alone
  not_uncalled : past_head (steps_of earlier) ≡ false → false ≡ is_uncalled (steps_of earlier)
  not_uncalled h =
      let early = leb-false goal_step order.kind (s.past ∙ h) in
      sym (ne_eqb order.kind goal_step (omega arith)) ∙ s.uncalled

  goal_after_lem :
      (step : Step) → fits (Begins step) ≡ true → (k : ℕ)
      → has (goal_after order.goal step) k ≡ in_goal k (steps_of (Begins step ∷ earlier))
  unfolding steps_of in_goal
  goal_after_lem (Head j v) in_size k = s.goal k
  goal_after_lem (HeadDeep v) in_size k = s.goal k
  goal_after_lem (Goal j v) in_size k =
      has-inserted order.goal j k (argument_and_variable_lem j v in_size).1 ∙ ap (λ b. b || eqb k j) (s.goal k)
  goal_after_lem (GoalDeep v) in_size k = s.goal k
  goal_after_lem Call in_size k = has-empty k

  past_after :
      (step : Step) → is_out_of_order earlier (Begins step) ≡ false → leb goal_step (kind_of step) ≡ past_head (steps_of (Begins step ∷ earlier))
  unfolding steps_of past_head
  past_after (Head k v) in_order = sym in_order
  past_after (HeadDeep v) in_order = sym in_order
  past_after (Goal k v) in_order = refl
  past_after (GoalDeep v) in_order = refl
  past_after Call in_order = refl

  uncalled_after :
      (step : Step) → is_out_of_order earlier (Begins step) ≡ false → eqb (kind_of step) goal_step ≡ is_uncalled (steps_of (Begins step ∷ earlier))
  unfolding steps_of is_uncalled
  uncalled_after (Head k v) in_order = not_uncalled in_order
  uncalled_after (HeadDeep v) in_order = not_uncalled in_order
  uncalled_after (Goal k v) in_order = refl
  uncalled_after (GoalDeep v) in_order = refl
  uncalled_after Call in_order = refl

  following_sums :
      (line : CheckLine) → is_out_of_order earlier line ≡ false → fits line ≡ true → Sums (following order line) (line ∷ earlier)
  unfolding steps_of instructions_of number_taken
  following_sums (Begins step) in_order in_size =
      record {
        steps = omega (arith, s.steps);
        kind = refl;
        instructions = refl;
        taken = refl;
        goal = goal_after_lem step in_size;
        past = past_after step in_order;
        uncalled = uncalled_after step in_order;
      }
  following_sums (Does instruction) in_order in_size =
      record {
        steps = s.steps;
        kind = s.kind;
        instructions = omega (arith, s.instructions);
        taken = ap (λ b. b || takes_number instruction) s.taken;
        goal = s.goal;
        past = s.past;
        uncalled = s.uncalled;
      }

  -- the order with an accepted line sums up that line too
  pub sums_accepted :
      (line : CheckLine) → (judged order line).refusal ≡ accepted → Sums (judged order line).order (line ∷ earlier)
  unfolding refusal_of
  sums_accepted line good =
      let passed = none_refuses (is_out_of_order earlier line) (fits line) (is_full earlier line) (sym (sums_refusal order earlier s line) ∙ good) in
      rw (accepted_order order line good) (following_sums line passed.0 passed.1)

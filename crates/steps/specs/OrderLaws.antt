-- Laws of judged lines: what an accepted line has passed, and what the order says after it.
use Rattle.std.specs.Prelude.{ℕ, ◌≤◌, ◌<◌, ◌≡◌, Bool, true, false, ◌&&◌, ◌||◌, eqb, leb, ltb}
use Rattle.std.proofs.Math.Path.{refl}
use Rattle.std.proofs.Common.{sym, ap, ◌∙◌, arith, leb-false, ltb-true, eqb-true}
use Rattle.std.proofs.lemmas.Bool.{false≢true}
use Rattle.std.specs.Prelude.{if◌then◌else◌}
use Rattle.notation.specs.ChoiceLaws.{both_true}
use Rattle.refusals.specs.Refusals.{accepted, is_refused}
use Rattle.refusals.specs.RefusalsLaws.{not_refused}
use Rattle.sizes.specs.Sizes.{registers, variables, steps, instructions, is_register}
use Rattle.sizes.specs.SizesLaws.{register_exactly}
use Rattle.instructions.specs.declared.Instruction.{Instruction}
use Rattle.steps.specs.declared.Step.{Step}
use Rattle.steps.specs.declared.CheckLine.{CheckLine}
use Rattle.steps.specs.declared.CheckLine.TheVariants.{Begins, Does}
use Rattle.steps.specs.declared.Order.{Order}
use Rattle.steps.specs.Steps.{is_put_or_set, is_get_value_or_unify, takes_number, fits, first_of}
use Rattle.steps.specs.Order.{head_step, goal_step, step_breaks, misplaced_under, breaks_order, overfills, refusal_by, following, judged_as, judged}

-- ---- What an accepted line has passed

pub none_refuses :
    (out_of_order in_size full : Bool) → first_of out_of_order in_size full ≡ accepted
    → (out_of_order ≡ false) × (in_size ≡ true) × (full ≡ false)
none_refuses true in_size full h = absurd cc
none_refuses false true true h = absurd cc
none_refuses false true false h = (refl, refl, refl)
none_refuses false false full h = absurd cc

module _ (order : Order) (line : CheckLine) where
  pub judged_refusal : (judged order line).refusal ≡ refusal_by order line
  unfolding judged judged_as
  judged_refusal = refl

module _ (order : Order) (line : CheckLine) (good : (judged order line).refusal ≡ accepted) where
  passed : (breaks_order order line ≡ false) × (fits line ≡ true) × (overfills order line ≡ false)
  unfolding judged judged_as refusal_by
  passed = none_refuses (breaks_order order line) (fits line) (overfills order line) good

  line_in_order : breaks_order order line ≡ false
  line_in_order = passed.0

  pub line-fits : fits line ≡ true
  line-fits = passed.1

  pub line-has_room : overfills order line ≡ false
  line-has_room = passed.2

  pub accepted_order : (judged order line).order ≡ following order line
  unfolding judged judged_as
  accepted_order = simp good

-- ---- So many step lines, and so many instructions under each (rule 3.15)

pub begins_few : (order : Order) (step : Step) → (judged order (Begins step)).refusal ≡ accepted → order.steps < steps
begins_few order step good = leb-false steps order.steps (line-has_room order (Begins step) good)

pub does_few :
    (order : Order) (instruction : Instruction) → (judged order (Does instruction)).refusal ≡ accepted
    → order.instructions < instructions
does_few order instruction good = leb-false instructions order.instructions (line-has_room order (Does instruction) good)

following_few :
    (order : Order) (line : CheckLine) → (judged order line).refusal ≡ accepted → order.steps ≤ steps → (following order line).steps ≤ steps
following_few order (Begins step) good h = omega (arith, begins_few order step good)
following_few order (Does instruction) good h = h

pub steps-kept : (order : Order) (line : CheckLine) → order.steps ≤ steps → (judged order line).order.steps ≤ steps
unfolding judged judged_as
steps-kept order line h =
    elim (is_refused (refusal_by order line)) as
    (λ t. is_refused (refusal_by order line) ≡ t → (if t then order else following order line).steps ≤ steps)
    [ true ↦ λ e. h | false ↦ λ e. following_few order line (not_refused (refusal_by order line) e) h ]
    refl

-- ---- The head, before any goal step or `call`

-- a step that could not follow a goal step or `call`
pub head_goes_on :
    (order : Order) (step : Step) → (judged order (Begins step)).refusal ≡ accepted
    → step_breaks order step ≡ leb goal_step order.kind → order.kind ≤ head_step
head_goes_on order step good e =
    omega (arith, leb-false goal_step order.kind (sym e ∙ line_in_order order (Begins step) good))

under_head :
    (in_head in_goal other demands taken : Bool) → demands ≡ true
    → ((if in_head then other else if in_goal then demands else true) || taken) ≡ false → in_head ≡ true
under_head true in_goal other demands taken e h = refl
under_head false true other demands taken e h = absurd (false≢true (sym h ∙ ap (λ (t : Bool). t || taken) e))
under_head false false other demands taken e h = absurd (false≢true (sym h))

-- equalities are demanded in the head alone
pub demands_in_head :
    (order : Order) (instruction : Instruction) → (judged order (Does instruction)).refusal ≡ accepted
    → is_get_value_or_unify instruction ≡ true → order.kind ≡ head_step
unfolding misplaced_under
demands_in_head order instruction good demands =
    eqb-true
    order.kind
    head_step
    (under_head
    _
    (eqb order.kind goal_step)
    (is_put_or_set instruction)
    _
    (order.number_taken && takes_number instruction)
    demands
    (line_in_order order (Does instruction) good))

-- ---- The sizes as plain facts

pub argument_and_variable_lem :
    (k v : ℕ) → (is_register k && ltb v variables) ≡ true → (1 ≤ k) × (k ≤ registers) × (v < variables)
argument_and_variable_lem k v h =
    let b = both_true (is_register k) (ltb v variables) h in
    let r = (register_exactly k).0 b.0 in
    (r.0, r.1, ltb-true v variables b.1)

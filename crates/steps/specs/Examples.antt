-- Lines in an order, each with its refusal: rules 19.3, 19.4, 19.6 to 19.10.
use Rattle.std.specs.Prelude.{◌≡◌, refl, Option, List, [], ◌∷◌}
use Rattle.std.specs.Prelude.{if◌then◌else◌}
use Rattle.refusals.specs.declared.Refusal.{Refusal}
use Rattle.refusals.specs.Refusals.{accepted, refused_order, refused_size, refused_full, is_refused}
use Rattle.registers.specs.declared.RegType.TheVariants.{Temp, Perm}
use Rattle.instructions.specs.declared.Instruction.TheVariants.{GetVariable, PutVariable, PutValue, PutUnsafeValue, SetVariable, SetValue, UnifyValue}
use Rattle.steps.specs.declared.Step.TheVariants.{Head, HeadDeep, Goal, GoalDeep, Call}
use Rattle.steps.specs.declared.CheckLine.{CheckLine}
use Rattle.steps.specs.declared.CheckLine.TheVariants.{Begins, Does}
use Rattle.steps.specs.Steps.{steps_of, instructions_of, past_head, in_goal, number_taken, is_uncalled, refusal_of}

-- the refusal of each line behind those before it that were accepted, and then the sheet's
unfoldable pub refusals_from : List CheckLine → List CheckLine → List (Option Refusal)
refusals_from earlier [] = (if is_uncalled (steps_of earlier) then refused_order else accepted) ∷ []
refusals_from earlier (line ∷ lines) =
    refusal_of earlier line ∷ refusals_from (if is_refused (refusal_of earlier line) then earlier else line ∷ earlier) lines

-- no head step behind a goal step; the same argument again only behind `call`, and order before size
pub goals :
    refusals_from []
    (Does (GetVariable (Temp 1) 1)
    ∷ Begins (HeadDeep 63)
    ∷ Begins (Goal 1 0)
    ∷ Begins (GoalDeep 0)
    ∷ Begins (Head 1 0)
    ∷ Begins (Goal 1 64)
    ∷ Begins (Goal 64 0)
    ∷ Begins Call
    ∷ Does (GetVariable (Temp 1) 1)
    ∷ Begins (Goal 1 64)
    ∷ Begins (Goal 1 0)
    ∷ [])
    ≡ refused_order
    ∷ accepted
    ∷ accepted
    ∷ accepted
    ∷ refused_order
    ∷ refused_order
    ∷ refused_size
    ∷ accepted
    ∷ refused_order
    ∷ refused_size
    ∷ accepted
    ∷ refused_order
    ∷ []
unfolding refusals_from refusal_of steps_of instructions_of past_head in_goal number_taken is_uncalled
goals = refl

-- the step's number is taken once, and the fifth instruction is one too many; a step line begins anew
pub step_numbers :
    refusals_from []
    (Begins (Goal 1 0)
    ∷ Does (PutVariable (Temp 1) 1)
    ∷ Does (SetVariable (Temp 1))
    ∷ Does (UnifyValue (Temp 1))
    ∷ Does (SetValue (Perm 64))
    ∷ Does (SetValue (Perm 63))
    ∷ Does (PutUnsafeValue 1 63)
    ∷ Does (PutValue (Temp 0) 1)
    ∷ Does (PutValue (Temp 1) 1)
    ∷ Does (GetVariable (Temp 1) 0)
    ∷ Does (GetVariable (Temp 1) 1)
    ∷ Begins (GoalDeep 1)
    ∷ Does (SetVariable (Temp 1))
    ∷ Begins Call
    ∷ [])
    ≡ accepted
    ∷ accepted
    ∷ refused_order
    ∷ refused_order
    ∷ refused_size
    ∷ accepted
    ∷ accepted
    ∷ refused_size
    ∷ accepted
    ∷ refused_size
    ∷ refused_full
    ∷ accepted
    ∷ accepted
    ∷ accepted
    ∷ accepted
    ∷ []
unfolding refusals_from refusal_of steps_of instructions_of past_head in_goal number_taken is_uncalled
step_numbers = refl

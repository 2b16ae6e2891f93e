-- The lines of a check sheet, and what refuses one behind the lines before it: rules 3.15, 3.16, 4.12, 19.3 to 19.10.
-- Lines and steps that stand before are listed with the last one first.
use Rattle.std.specs.Prelude.{ℕ, Bool, true, false, not, ◌&&◌, ◌||◌, Option, List, [], ◌∷◌, eqb, leb, ltb, length}
use Rattle.std.specs.Prelude.{if◌then◌else◌}
use Rattle.refusals.specs.declared.Refusal.{Refusal}
use Rattle.refusals.specs.Refusals.{accepted, refused_order, refused_size, refused_full}
use Rattle.sizes.specs.Sizes.{variables, steps as step_lines, instructions as step_instructions, is_register}
use Rattle.registers.specs.declared.RegType.{RegType}
use Rattle.registers.specs.declared.RegType.TheVariants.{Temp, Perm}
use Rattle.instructions.specs.declared.Instruction.{Instruction}
use Rattle.instructions.specs.declared.Instruction.TheVariants.{GetVariable, GetValue, PutVariable, PutValue, PutUnsafeValue, SetVariable, SetValue, SetLocalValue, UnifyVariable, UnifyValue, UnifyLocalValue}
use Rattle.steps.specs.declared.Step.{Step}
use Rattle.steps.specs.declared.Step.TheVariants.{Head, HeadDeep, Goal, GoalDeep, Call}
use Rattle.steps.specs.declared.CheckLine.{CheckLine}
use Rattle.steps.specs.declared.CheckLine.TheVariants.{Begins, Does}

-- ---- What stands before

-- the step lines; the last one is the step that the next instruction stands under
unfoldable pub steps_of : List CheckLine → List Step
steps_of [] = []
steps_of (Begins step ∷ earlier) = step ∷ steps_of earlier
steps_of (Does instruction ∷ earlier) = steps_of earlier

-- the instructions under it
unfoldable pub instructions_of : List CheckLine → List Instruction
instructions_of [] = []
instructions_of (Begins step ∷ earlier) = []
instructions_of (Does instruction ∷ earlier) = instruction ∷ instructions_of earlier

-- ---- Instructions by kind (rules 19.5 to 19.7)

abbrev pub is_put_or_set : Instruction → Bool
is_put_or_set (GetVariable place k) = false
is_put_or_set (GetValue place k) = false
is_put_or_set (PutVariable place k) = true
is_put_or_set (PutValue place k) = true
is_put_or_set (PutUnsafeValue slot k) = true
is_put_or_set (SetVariable place) = true
is_put_or_set (SetValue place) = true
is_put_or_set (SetLocalValue place) = true
is_put_or_set (UnifyVariable place) = false
is_put_or_set (UnifyValue place) = false
is_put_or_set (UnifyLocalValue place) = false

abbrev pub is_get_value_or_unify : Instruction → Bool
is_get_value_or_unify (GetVariable place k) = false
is_get_value_or_unify (GetValue place k) = true
is_get_value_or_unify (PutVariable place k) = false
is_get_value_or_unify (PutValue place k) = false
is_get_value_or_unify (PutUnsafeValue slot k) = false
is_get_value_or_unify (SetVariable place) = false
is_get_value_or_unify (SetValue place) = false
is_get_value_or_unify (SetLocalValue place) = false
is_get_value_or_unify (UnifyVariable place) = true
is_get_value_or_unify (UnifyValue place) = true
is_get_value_or_unify (UnifyLocalValue place) = true

-- rule 19.7: those that write or demand the step's number
abbrev pub takes_number : Instruction → Bool
takes_number (GetVariable place k) = false
takes_number (GetValue place k) = false
takes_number (PutVariable place k) = true
takes_number (PutValue place k) = false
takes_number (PutUnsafeValue slot k) = false
takes_number (SetVariable place) = true
takes_number (SetValue place) = false
takes_number (SetLocalValue place) = false
takes_number (UnifyVariable place) = true
takes_number (UnifyValue place) = true
takes_number (UnifyLocalValue place) = true

-- ---- Order: refusal 2

-- whether a goal step or `call` stands before
unfoldable pub past_head : List Step → Bool
past_head [] = false
past_head (Head k v ∷ earlier) = past_head earlier
past_head (HeadDeep v ∷ earlier) = past_head earlier
past_head (Goal k v ∷ earlier) = true
past_head (GoalDeep v ∷ earlier) = true
past_head (Call ∷ earlier) = true

-- whether k is an argument of this goal, which `call` ends
unfoldable pub in_goal : ℕ → List Step → Bool
in_goal k [] = false
in_goal k (Head other v ∷ earlier) = in_goal k earlier
in_goal k (HeadDeep v ∷ earlier) = in_goal k earlier
in_goal k (Goal other v ∷ earlier) = in_goal k earlier || eqb k other
in_goal k (GoalDeep v ∷ earlier) = in_goal k earlier
in_goal k (Call ∷ earlier) = false

-- rules 19.3, 19.8: head steps come first, and a goal has each argument once
abbrev pub step_out_of_order : List Step → Step → Bool
step_out_of_order earlier (Head k v) = past_head earlier
step_out_of_order earlier (HeadDeep v) = past_head earlier
step_out_of_order earlier (Goal k v) = in_goal k earlier
step_out_of_order earlier (GoalDeep v) = false
step_out_of_order earlier Call = false

-- rules 19.4 to 19.6: an instruction with no step over it, or with one that does not take it
abbrev pub misplaced : List Step → Instruction → Bool
misplaced [] instruction = true
misplaced (Call ∷ earlier) instruction = true
misplaced (Head k v ∷ earlier) instruction = is_put_or_set instruction
misplaced (HeadDeep v ∷ earlier) instruction = is_put_or_set instruction
misplaced (Goal k v ∷ earlier) instruction = is_get_value_or_unify instruction
misplaced (GoalDeep v ∷ earlier) instruction = is_get_value_or_unify instruction

-- whether one of a step's instructions takes its number
unfoldable pub number_taken : List Instruction → Bool
number_taken [] = false
number_taken (instruction ∷ earlier) = number_taken earlier || takes_number instruction

-- rules 19.7, 19.10: a step's number is taken once; and all other orders are allowed
abbrev pub is_out_of_order : List CheckLine → CheckLine → Bool
is_out_of_order earlier (Begins step) = step_out_of_order (steps_of earlier) step
is_out_of_order earlier (Does instruction) =
    misplaced (steps_of earlier) instruction || (number_taken (instructions_of earlier) && takes_number instruction)

-- rule 19.9: at the sheet's end there is a goal without its `call`
unfoldable pub is_uncalled : List Step → Bool
is_uncalled [] = false
is_uncalled (Head k v ∷ earlier) = is_uncalled earlier
is_uncalled (HeadDeep v ∷ earlier) = is_uncalled earlier
is_uncalled (Goal k v ∷ earlier) = true
is_uncalled (GoalDeep v ∷ earlier) = true
is_uncalled (Call ∷ earlier) = false

-- ---- Sizes: refusal 3, by rule 3.16

abbrev pub place_fits : RegType → Bool
place_fits (Temp r) = is_register r
place_fits (Perm r) = is_register r

abbrev pub step_fits : Step → Bool
step_fits (Head k v) = is_register k && ltb v variables
step_fits (HeadDeep v) = ltb v variables
step_fits (Goal k v) = is_register k && ltb v variables
step_fits (GoalDeep v) = ltb v variables
step_fits Call = true

abbrev pub instruction_fits : Instruction → Bool
instruction_fits (GetVariable place k) = place_fits place && is_register k
instruction_fits (GetValue place k) = place_fits place && is_register k
instruction_fits (PutVariable place k) = place_fits place && is_register k
instruction_fits (PutValue place k) = place_fits place && is_register k
instruction_fits (PutUnsafeValue slot k) = is_register slot && is_register k
instruction_fits (SetVariable place) = place_fits place
instruction_fits (SetValue place) = place_fits place
instruction_fits (SetLocalValue place) = place_fits place
instruction_fits (UnifyVariable place) = place_fits place
instruction_fits (UnifyValue place) = place_fits place
instruction_fits (UnifyLocalValue place) = place_fits place

abbrev pub fits : CheckLine → Bool
fits (Begins step) = step_fits step
fits (Does instruction) = instruction_fits instruction

-- ---- What is full: refusal 7, by rule 3.15

abbrev pub is_full : List CheckLine → CheckLine → Bool
is_full earlier (Begins step) = leb step_lines (length (steps_of earlier))
is_full earlier (Does instruction) = leb step_instructions (length (instructions_of earlier))

-- ---- 2, 3, then 7: rule 4.12

abbrev pub first_of : Bool → Bool → Bool → Option Refusal
first_of out_of_order in_size full =
    if out_of_order
    then refused_order
    else if not in_size then refused_size else if full then refused_full else accepted

unfoldable pub refusal_of : List CheckLine → CheckLine → Option Refusal
refusal_of earlier line = first_of (is_out_of_order earlier line) (fits line) (is_full earlier line)

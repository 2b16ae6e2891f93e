-- What is kept of the lines so far, and what it says of the next one: an order, which sums them up (SumsLaws).
use Rattle.std.specs.Prelude.{ℕ, ◌+◌, Bool, true, false, ◌&&◌, ◌||◌, Option, eqb, leb}
use Rattle.std.specs.Prelude.{if◌then◌else◌}
use Rattle.refusals.specs.declared.Refusal.{Refusal}
use Rattle.refusals.specs.Refusals.{accepted, refused_order, is_refused}
use Rattle.sizes.specs.Sizes.{steps, instructions}
use Rattle.bit_set.specs.BitSet.{has, empty_set, inserted}
use Rattle.instructions.specs.declared.Instruction.{Instruction}
use Rattle.steps.specs.declared.Step.{Step}
use Rattle.steps.specs.declared.Step.TheVariants.{Head, HeadDeep, Goal, GoalDeep, Call}
use Rattle.steps.specs.declared.CheckLine.{CheckLine}
use Rattle.steps.specs.declared.CheckLine.TheVariants.{Begins, Does}
use Rattle.steps.specs.declared.Order.{Order}
use Rattle.steps.specs.declared.Judged.{Judged}
use Rattle.steps.specs.Steps.{is_put_or_set, is_get_value_or_unify, takes_number, fits, first_of}

-- ---- The kinds of the last step

abbrev pub no_step : ℕ
no_step = 0

abbrev pub head_step : ℕ
head_step = 1

abbrev pub goal_step : ℕ
goal_step = 2

abbrev pub call_step : ℕ
call_step = 3

abbrev pub kind_of : Step → ℕ
kind_of (Head k v) = head_step
kind_of (HeadDeep v) = head_step
kind_of (Goal k v) = goal_step
kind_of (GoalDeep v) = goal_step
kind_of Call = call_step

-- ---- The tests of a line, by an order

-- no head step follows a goal step or `call` (rule 19.3), so the last step is enough
abbrev pub step_breaks : Order → Step → Bool
step_breaks order (Head k v) = leb goal_step order.kind
step_breaks order (HeadDeep v) = leb goal_step order.kind
step_breaks order (Goal k v) = has order.goal k
step_breaks order (GoalDeep v) = false
step_breaks order Call = false

unfoldable pub misplaced_under : ℕ → Instruction → Bool
misplaced_under kind instruction =
    if eqb kind head_step then is_put_or_set instruction else if eqb kind goal_step then is_get_value_or_unify instruction else true

abbrev pub breaks_order : Order → CheckLine → Bool
breaks_order order (Begins step) = step_breaks order step
breaks_order order (Does instruction) =
    misplaced_under order.kind instruction || (order.number_taken && takes_number instruction)

abbrev pub overfills : Order → CheckLine → Bool
overfills order (Begins step) = leb steps order.steps
overfills order (Does instruction) = leb instructions order.instructions

unfoldable pub refusal_by : Order → CheckLine → Option Refusal
refusal_by order line = first_of (breaks_order order line) (fits line) (overfills order line)

-- ---- The order with a line

abbrev pub fresh_order : Order
fresh_order = record { steps = 0; kind = no_step; instructions = 0; number_taken = false; goal = empty_set }

-- the goal runs since the last `call`
abbrev pub goal_after : ℕ → Step → ℕ
goal_after goal (Head k v) = goal
goal_after goal (HeadDeep v) = goal
goal_after goal (Goal k v) = inserted goal k
goal_after goal (GoalDeep v) = goal
goal_after goal Call = empty_set

abbrev pub begun : Order → Step → Order
begun order step =
    record {
      steps = order.steps + 1;
      kind = kind_of step;
      instructions = 0;
      number_taken = false;
      goal = goal_after order.goal step;
    }

abbrev pub done : Order → Instruction → Order
done order instruction =
    record {
      steps = order.steps;
      kind = order.kind;
      instructions = order.instructions + 1;
      number_taken = order.number_taken || takes_number instruction;
      goal = order.goal;
    }

abbrev pub following : Order → CheckLine → Order
following order (Begins step) = begun order step
following order (Does instruction) = done order instruction

abbrev pub with_refusal : Order → Option Refusal → Judged
with_refusal order refusal = record { order = order; refusal = refusal }

-- a line that is refused leaves the order as it is
unfoldable pub judged_as : Order → CheckLine → Option Refusal → Judged
judged_as order line refusal = with_refusal (if is_refused refusal then order else following order line) refusal

unfoldable pub judged : Order → CheckLine → Judged
judged order line = judged_as order line (refusal_by order line)

-- rule 19.9: the last step is a goal step
unfoldable pub refusal_at_end : Order → Option Refusal
refusal_at_end order = if eqb order.kind goal_step then refused_order else accepted

-- What an order that sums up the lines so far says of each of its numbers.
use Rattle.std.specs.Prelude.{ℕ, ◌≡◌, List, [], ◌∷◌, leb, eqb, length}
use Rattle.bit_set.specs.BitSet.{has}
use Rattle.steps.specs.declared.Step.{Step}
use Rattle.steps.specs.declared.CheckLine.{CheckLine}
use Rattle.steps.specs.declared.Order.{Order}
use Rattle.steps.specs.Steps.{steps_of, instructions_of, past_head, in_goal, number_taken, is_uncalled}
use Rattle.steps.specs.Order.{no_step, goal_step, kind_of}

abbrev pub last_kind : List Step → ℕ
last_kind [] = no_step
last_kind (step ∷ earlier) = kind_of step

pub record Sums (order : Order) (earlier : List CheckLine) : Type 0 where
  pub steps : order.steps ≡ length (steps_of earlier)
  pub kind : order.kind ≡ last_kind (steps_of earlier)
  pub instructions : order.instructions ≡ length (instructions_of earlier)
  pub taken : order.number_taken ≡ number_taken (instructions_of earlier)
  pub goal : (k : ℕ) → has order.goal k ≡ in_goal k (steps_of earlier)
  -- of lines that were accepted the last step shows whether the head is past, and whether a `call` is missing
  pub past : leb goal_step order.kind ≡ past_head (steps_of earlier)
  pub uncalled : eqb order.kind goal_step ≡ is_uncalled (steps_of earlier)

-- The words of a check sheet's lines, each with what stands behind it: rules 19.1, 19.2.
use Rattle.std.specs.Prelude.{ℕ, List, [], ◌∷◌}
use Rattle.notation.specs.Text.{bytes}
use Rattle.instructions.specs.declared.Instruction.TheVariants.{GetVariable, GetValue, PutVariable, PutValue, PutUnsafeValue, SetVariable, SetValue, SetLocalValue, UnifyVariable, UnifyValue, UnifyLocalValue}
use Rattle.steps.specs.declared.Step.TheVariants.{Head, HeadDeep, Goal, GoalDeep, Call}
use Rattle.check_lines.specs.Behind.{Behind, alone, variable, argument_and_variable, place_alone, place_and_argument, slot_and_argument}

-- a word, and what the fields behind it say
abbrev pub WordRow : Type 0
WordRow = List ℕ × Behind

-- the code numbers the words from 1 in this order
abbrev pub line_words : List WordRow
line_words =
    (bytes "call", alone Call)
    ∷ (bytes "hd", variable HeadDeep)
    ∷ (bytes "gd", variable GoalDeep)
    ∷ (bytes "h", argument_and_variable Head)
    ∷ (bytes "g", argument_and_variable Goal)
    ∷ (bytes "get_variable", place_and_argument GetVariable)
    ∷ (bytes "get_value", place_and_argument GetValue)
    ∷ (bytes "put_variable", place_and_argument PutVariable)
    ∷ (bytes "put_value", place_and_argument PutValue)
    ∷ (bytes "put_unsafe_value", slot_and_argument PutUnsafeValue)
    ∷ (bytes "set_variable", place_alone SetVariable)
    ∷ (bytes "set_value", place_alone SetValue)
    ∷ (bytes "set_local_value", place_alone SetLocalValue)
    ∷ (bytes "unify_variable", place_alone UnifyVariable)
    ∷ (bytes "unify_value", place_alone UnifyValue)
    ∷ (bytes "unify_local_value", place_alone UnifyLocalValue)
    ∷ []

-- A line of each word, and lines that have no form: rules 2.4, 19.1, 19.2.
use Rattle.std.specs.Prelude.{ℕ, ◌≡◌, refl, List, [], ◌∷◌, map, Some, None}
use Rattle.notation.specs.Text.{bytes}
use Rattle.split.specs.Split.{split, in_front}
use Rattle.words.specs.Words.{same}
use Rattle.numbers.specs.Numbers.{number_of, is_number, all_digits, is_digit, value_from, needless_zero}
use Rattle.registers.specs.declared.RegType.TheVariants.{Temp, Perm}
use Rattle.instructions.specs.declared.Instruction.TheVariants.{GetVariable, GetValue, PutVariable, PutValue, PutUnsafeValue, SetVariable, SetValue, SetLocalValue, UnifyVariable, UnifyValue, UnifyLocalValue}
use Rattle.steps.specs.declared.Step.TheVariants.{Head, HeadDeep, Goal, GoalDeep, Call}
use Rattle.steps.specs.declared.CheckLine.TheVariants.{Begins, Does}
use Rattle.check_lines.specs.Behind.{Line, no_more, a_number, a_place}
use Rattle.check_lines.specs.CheckLines.{said_among, fields_say, line_says}

-- each word, in the order of its rules; a number outside its size has its form all the same
abbrev well_formed : List (List ℕ × Line)
well_formed =
    (bytes "h\t1\t0", Some (Begins (Head 1 0)))
    ∷ (bytes "hd\t64", Some (Begins (HeadDeep 64)))
    ∷ (bytes "g\t2\t3", Some (Begins (Goal 2 3)))
    ∷ (bytes "gd\t3", Some (Begins (GoalDeep 3)))
    ∷ (bytes "call", Some (Begins Call))
    ∷ (bytes "get_variable\tx3\t1", Some (Does (GetVariable (Temp 3) 1)))
    ∷ (bytes "get_value\ty1\t2", Some (Does (GetValue (Perm 1) 2)))
    ∷ (bytes "put_variable\tx4\t1", Some (Does (PutVariable (Temp 4) 1)))
    ∷ (bytes "put_value\tx0\t64", Some (Does (PutValue (Temp 0) 64)))
    ∷ (bytes "put_unsafe_value\ty1\t1", Some (Does (PutUnsafeValue 1 1)))
    ∷ (bytes "set_variable\tx2", Some (Does (SetVariable (Temp 2))))
    ∷ (bytes "set_value\ty64", Some (Does (SetValue (Perm 64))))
    ∷ (bytes "set_local_value\ty2", Some (Does (SetLocalValue (Perm 2))))
    ∷ (bytes "unify_variable\tx2", Some (Does (UnifyVariable (Temp 2))))
    ∷ (bytes "unify_value\tx2", Some (Does (UnifyValue (Temp 2))))
    ∷ (bytes "unify_local_value\ty2", Some (Does (UnifyLocalValue (Perm 2))))
    ∷ []

abbrev malformed : List (List ℕ)
malformed =
    bytes ""
    ∷ bytes "Call"
    ∷ bytes "call\t"
    ∷ bytes "sets"
    ∷ bytes "h"
    ∷ bytes "h\t1"
    ∷ bytes "h\t1\t"
    ∷ bytes "h\t1\t0\t0"
    ∷ bytes "h\t01\t0"
    ∷ bytes "h\tx1\t0"
    ∷ bytes "hd\t1\t0"
    ∷ bytes "gd\t"
    ∷ bytes "get_variable\tx\t1"
    ∷ bytes "get_variable\t1\t1"
    ∷ bytes "get_value\tz1\t1"
    ∷ bytes "get_value\tx01\t1"
    ∷ bytes "put_value\tx1"
    ∷ bytes "put_value\tx1\t4294967296"
    ∷ bytes "put_unsafe_value\tx1\t1"
    ∷ bytes "put_local_value\ty1\t1"
    ∷ bytes "set_value\tx1\t1"
    ∷ bytes "unify_value\tX1"
    ∷ []

pub lines_read : map (λ (e : List ℕ × Line). line_says e.0) well_formed ≡ map (λ (e : List ℕ × Line). e.1) well_formed
unfolding line_says fields_say said_among no_more a_number a_place split in_front same number_of is_number all_digits is_digit value_from needless_zero
lines_read = refl

pub lines_refused : map line_says malformed ≡ map (λ (line : List ℕ). None) malformed
unfolding line_says fields_say said_among no_more a_number a_place split in_front same number_of is_number all_digits is_digit value_from needless_zero
lines_refused = refl

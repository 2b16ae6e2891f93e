-- An instruction's code: its number, its place and its argument, and the fields of a line that they settle.
use Rattle.std.specs.Prelude.{ℕ, List, [], ◌∷◌, leb, get_or}
use Rattle.std.specs.Prelude.{if◌then◌else◌}
use Rattle.notation.specs.Text.{bytes}
use Rattle.numbers.specs.Numbers.{decimal}
use Rattle.registers.specs.declared.RegType.{RegType}
use Rattle.registers.specs.declared.RegType.TheVariants.{Perm}
use Rattle.registers.specs.Registers.{register_text}
use Rattle.instructions.specs.declared.Instruction.{Instruction}
use Rattle.instructions.specs.declared.Instruction.TheVariants.{GetVariable, GetValue, PutVariable, PutValue, PutUnsafeValue, SetVariable, SetValue, SetLocalValue, UnifyVariable, UnifyValue, UnifyLocalValue}
use Rattle.instructions.specs.declared.Code.{Code}

abbrev pub numbered : ℕ → RegType → ℕ → Code
numbered number place argument = record { number = number; place = place; argument = argument }

-- 0 to 4 have an argument; for 5 to 10 it is 0
abbrev pub code_of : Instruction → Code
code_of (GetVariable place k) = numbered 0 place k
code_of (GetValue place k) = numbered 1 place k
code_of (PutVariable place k) = numbered 2 place k
code_of (PutValue place k) = numbered 3 place k
code_of (PutUnsafeValue slot k) = numbered 4 (Perm slot) k
code_of (SetVariable place) = numbered 5 place 0
code_of (SetValue place) = numbered 6 place 0
code_of (SetLocalValue place) = numbered 7 place 0
code_of (UnifyVariable place) = numbered 8 place 0
code_of (UnifyValue place) = numbered 9 place 0
code_of (UnifyLocalValue place) = numbered 10 place 0

-- the word of each number, from 0
abbrev pub words : List (List ℕ)
words =
    bytes "get_variable"
    ∷ bytes "get_value"
    ∷ bytes "put_variable"
    ∷ bytes "put_value"
    ∷ bytes "put_unsafe_value"
    ∷ bytes "set_variable"
    ∷ bytes "set_value"
    ∷ bytes "set_local_value"
    ∷ bytes "unify_variable"
    ∷ bytes "unify_value"
    ∷ bytes "unify_local_value"
    ∷ []

unfoldable pub word_of : ℕ → List ℕ
word_of number = get_or words number []

-- rule 16.3: the word, the place and, with a number up to 4, the argument
unfoldable pub fields_of : Code → List (List ℕ)
fields_of c = word_of c.number ∷ register_text c.place ∷ (if leb c.number 4 then decimal c.argument ∷ [] else [])

-- The lines that marks print, built as rule 2.5 says: one tab between fields, and LF at the end.
use Rattle.std.specs.Prelude.{ℕ, List, [], ◌∷◌, ◌++◌}
use Rattle.notation.specs.Text.{bytes}
use Rattle.split.specs.Split.{joined, tab, line_feed}
use Rattle.numbers.specs.Numbers.{decimal}
use Rattle.registers.specs.declared.RegType.{RegType}
use Rattle.registers.specs.declared.RegType.TheVariants.{Perm}
use Rattle.registers.specs.Registers.{register_text}
use Rattle.instructions.specs.declared.Instruction.{Instruction}
use Rattle.instructions.specs.declared.Instruction.TheVariants.{GetVariable, GetValue, PutVariable, PutValue, PutUnsafeValue, SetVariable, SetValue, SetLocalValue, UnifyVariable, UnifyValue, UnifyLocalValue}

unfoldable pub line : List (List ℕ) → List ℕ
line fields = joined tab fields ++ line_feed ∷ []

-- rule 16.3: the word, the place and, for those that have one, the argument k
unfoldable pub instruction_text : Instruction → List ℕ
instruction_text (GetVariable place k) = line (bytes "get_variable" ∷ register_text place ∷ decimal k ∷ [])
instruction_text (GetValue place k) = line (bytes "get_value" ∷ register_text place ∷ decimal k ∷ [])
instruction_text (PutVariable place k) = line (bytes "put_variable" ∷ register_text place ∷ decimal k ∷ [])
instruction_text (PutValue place k) = line (bytes "put_value" ∷ register_text place ∷ decimal k ∷ [])
instruction_text (PutUnsafeValue slot k) = line (bytes "put_unsafe_value" ∷ register_text (Perm slot) ∷ decimal k ∷ [])
instruction_text (SetVariable place) = line (bytes "set_variable" ∷ register_text place ∷ [])
instruction_text (SetValue place) = line (bytes "set_value" ∷ register_text place ∷ [])
instruction_text (SetLocalValue place) = line (bytes "set_local_value" ∷ register_text place ∷ [])
instruction_text (UnifyVariable place) = line (bytes "unify_variable" ∷ register_text place ∷ [])
instruction_text (UnifyValue place) = line (bytes "unify_value" ∷ register_text place ∷ [])
instruction_text (UnifyLocalValue place) = line (bytes "unify_local_value" ∷ register_text place ∷ [])

-- rule 16.2: `at` and the place, behind the instructions of an event
unfoldable pub at_text : RegType → List ℕ
at_text place = line (bytes "at" ∷ register_text place ∷ [])

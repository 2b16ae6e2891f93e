-- What the answer to an event sheet is made of: rules 2.5, 16.2, 16.4.
use Rattle.std.specs.Prelude.{ℕ, List, [], ◌∷◌, ◌++◌, Option, Some, None}
use Rattle.notation.specs.Text.{bytes}
use Rattle.numbers.specs.Numbers.{decimal}
use Rattle.instructions.specs.Instructions.{line, instruction_text, at_text}
use Rattle.registers.specs.declared.RegType.{RegType}
use Rattle.code_deque.specs.declared.CodeDeque.{CodeDeque}
use Rattle.code_deque.specs.declared.CodeDeque.TheVariants.{Empty, One, Two, Three}
use Rattle.debray_allocator.specs.declared.Answer.{Answer}

-- rule 16.2: the instructions of an event, three at most, in order
abbrev pub code_text : CodeDeque → List ℕ
code_text Empty = []
code_text (One i) = instruction_text i
code_text (Two i j) = instruction_text i ++ instruction_text j
code_text (Three i j k) = (instruction_text i ++ instruction_text j) ++ instruction_text k

-- rule 16.2: then `at` and the place, for the events that have one
abbrev pub place_text : Option RegType → List ℕ
place_text None = []
place_text (Some place) = at_text place

-- rule 16.2: so an event prints its instructions, then the line of its place, and nothing where it has neither
unfoldable pub answer_text : CodeDeque → Option RegType → List ℕ
answer_text code place = code_text code ++ place_text place

-- the same of a whole answer: what lines and sheets print is said by this alone
abbrev pub text_of : Answer → List ℕ
text_of a = answer_text a.code a.at

-- rule 16.4
unfoldable pub end_text : ℕ → ℕ → List ℕ
end_text max_reg_allocated num_perm_vars = line (bytes "end" ∷ decimal max_reg_allocated ∷ decimal num_perm_vars ∷ [])

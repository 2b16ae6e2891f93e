-- The instructions of one event, in the order in which they are made: rule 16.2.
use Rattle.std.specs.Prelude.{List, [], ◌∷◌}
use Rattle.instructions.specs.declared.Instruction.{Instruction}
use Rattle.code_deque.specs.declared.CodeDeque.{CodeDeque}
use Rattle.code_deque.specs.declared.CodeDeque.TheVariants.{Empty, One, Two, Three}

-- as a list
abbrev pub code_list : CodeDeque → List Instruction
code_list Empty = []
code_list (One i) = i ∷ []
code_list (Two i j) = i ∷ j ∷ []
code_list (Three i j k) = i ∷ j ∷ k ∷ []

-- one instruction more; a fourth, which no event makes, would be left out
abbrev pub pushed : CodeDeque → Instruction → CodeDeque
pushed Empty i = One i
pushed (One h) i = Two h i
pushed (Two g h) i = Three g h i
pushed (Three f g h) i = Three f g h

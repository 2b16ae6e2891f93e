-- Laws of the instructions that a mark's steps make: each step puts its own behind those that were there, and leaves none out.
use Rattle.std.specs.Prelude.{ℕ, ◌<◌, ◌≡◌}
use Rattle.std.proofs.Math.Path.{refl}
use Rattle.std.proofs.Common.{arith}
use mathlib.Core.List.{List, [], ◌∷◌, ◌++◌}
use Rattle.std.proofs.Math.ListN.{length}
use Rattle.instructions.specs.declared.Instruction.{Instruction}
use Rattle.code_deque.specs.declared.CodeDeque.{CodeDeque}
use Rattle.code_deque.specs.declared.CodeDeque.TheVariants.{Empty, One, Two, Three}
use Rattle.code_deque.specs.CodeDeque.{code_list, pushed}
use Rattle.evacuation.specs.declared.Reached.{Reached}
use Rattle.evacuation.specs.Evacuation.{Evacuation}
use Rattle.reserved_var.specs.ReservedVar.{Step}

-- how many instructions there are
abbrev pub made : CodeDeque → ℕ
made code = length (code_list code)

-- below three, an instruction goes behind the others: none is left out
pub pushed-below_three : (code : CodeDeque) (i : Instruction) → made code < 3 → code_list (pushed code i) ≡ code_list code ++ (i ∷ [])
pushed-below_three Empty i room = refl
pushed-below_three (One h) i room = refl
pushed-below_three (Two g h) i room = refl
pushed-below_three (Three f g h) i room = absurd (omega arith)

-- all of the instructions went behind those that were there
abbrev pub Behind : CodeDeque → List Instruction → CodeDeque → Type 0
Behind before instructions after = code_list after ≡ code_list before ++ instructions

-- ---- A variable's own instruction

-- what was made in a step went behind what was there
abbrev pub BehindReached : CodeDeque → Reached → List Instruction → Type 0
BehindReached code reached instructions = Behind code instructions reached.code

abbrev pub BehindStep : CodeDeque → Step → List Instruction → Type 0
BehindStep code step instructions = Behind code instructions step.reached.code

abbrev pub BehindEvacuation : CodeDeque → Evacuation → List Instruction → Type 0
BehindEvacuation code e instructions = Behind code instructions e.reached.code

-- ---- A variable as an argument

-- alike but for the instructions
abbrev pub Alike : Evacuation → Evacuation → Type 0
Alike e f =
    (e.records ≡ f.records)
    × (e.mappings ≡ f.mappings)
    × (e.reached.counters ≡ f.reached.counters)
    × (e.reached.refusal ≡ f.reached.refusal)

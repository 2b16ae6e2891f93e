-- What a sheet is answered with, a text or a refusal (rule 1.2): the number for a host, the lent bytes, the line of a refusal.
use Rattle.std.specs.Prelude.{ℕ, ◌+◌, ◌*◌, ℤ, pos, neg_ℤ, List, [], ◌∷◌, ◌++◌, drop, Result, Ok, Err}
use Rattle.notation.specs.Text.{bytes}
use Rattle.refusals.specs.declared.Refusal.{Refusal}
use Rattle.refusals.specs.Refusals.{number_of as refusal_number}
use Rattle.numbers.specs.Numbers.{decimal}
use Rattle.instructions.specs.Instructions.{line}
use Rattle.answered.specs.declared.Refused.{Refused}

-- the count of bytes written, or a line, where 0 is the whole sheet, and a refusal
abbrev pub Answered : Type 0
Answered = Result ℕ Refused

abbrev pub refused : {A : Type 0} → ℕ → Refusal → Result A Refused
refused number refusal = Err (record { line = number; refusal = refusal })

-- rule 23.1: one signed number for either
abbrev pub number_of : Answered → ℤ
number_of (Ok count) = pos count
number_of (Err told) = neg_ℤ (pos (16 * told.line + refusal_number told.refusal))

-- rules 1.3, 23.2: the lent bytes afterwards
abbrev pub filled_by : Answered → List ℕ → List ℕ → List ℕ
filled_by (Ok count) text out = text ++ drop count out
filled_by (Err told) text out = out

-- rules 2.5, 18.4, 22.1: a refusal as it is printed
unfoldable pub refusal_text : ℕ → ℕ → List ℕ
refusal_text number refusal = line (bytes "no" ∷ decimal number ∷ decimal refusal ∷ [])

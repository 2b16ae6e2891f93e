-- Laws of printed instructions: an instruction's code settles its line, and the line is put piece by piece.
use Rattle.std.specs.Prelude.{ℕ, zero, suc, ◌≤◌, ◌<◌, ◌≡◌, refl, [], ◌∷◌, ◌++◌, length}
use Rattle.std.proofs.Common.{zero-le, append_assoc, arith, le-leb}
use Rattle.std.proofs.lemmas.Bool.{lt-leb}
use Rattle.notation.specs.Text.{bytes}
use Rattle.split.specs.Split.{joined, tab, line_feed}
use Rattle.numbers.specs.Numbers.{decimal, written}
use Rattle.registers.specs.declared.RegType.TheVariants.{Perm}
use Rattle.registers.specs.Registers.{register_text}
use Rattle.instructions.specs.declared.Instruction.{Instruction}
use Rattle.instructions.specs.declared.Instruction.TheVariants.{GetVariable, GetValue, PutVariable, PutValue, PutUnsafeValue, SetVariable, SetValue, SetLocalValue, UnifyVariable, UnifyValue, UnifyLocalValue}
use Rattle.instructions.specs.declared.Code.{Code}
use Rattle.instructions.specs.Instructions.{line, instruction_text, at_text}
use Rattle.instructions.specs.Codes.{code_of, words, word_of, fields_of}

-- ---- An instruction's line is that of its code

pub text-by-number : (instruction : Instruction) → instruction_text instruction ≡ line (fields_of (code_of instruction))
unfolding instruction_text fields_of word_of
text-by-number (GetVariable place k) = refl
text-by-number (GetValue place k) = refl
text-by-number (PutVariable place k) = refl
text-by-number (PutValue place k) = refl
text-by-number (PutUnsafeValue slot k) = refl
text-by-number (SetVariable place) = refl
text-by-number (SetValue place) = refl
text-by-number (SetLocalValue place) = refl
text-by-number (UnifyVariable place) = refl
text-by-number (UnifyValue place) = refl
text-by-number (UnifyLocalValue place) = refl

-- each number has a word
pub number-has-word : (instruction : Instruction) → (code_of instruction).number < length words
number-has-word (GetVariable place k) = omega arith
number-has-word (GetValue place k) = omega arith
number-has-word (PutVariable place k) = omega arith
number-has-word (PutValue place k) = omega arith
number-has-word (PutUnsafeValue slot k) = omega arith
number-has-word (SetVariable place) = omega arith
number-has-word (SetValue place) = omega arith
number-has-word (SetLocalValue place) = omega arith
number-has-word (UnifyVariable place) = omega arith
number-has-word (UnifyValue place) = omega arith
number-has-word (UnifyLocalValue place) = omega arith

-- ---- A number by elimination

-- n is none of the numbers below k: what the last arm of a match knows, so that no number below k gets there
abbrev pub NoneBelow : ℕ → ℕ → Type 0
NoneBelow n zero = Unit
NoneBelow n (suc k) = NoneBelow n k × (n ≡ k → ⊥)

at_least : (n k : ℕ) → NoneBelow n k → k ≤ n
at_least n zero h = zero-le
at_least n (suc k) h = omega (arith, at_least n k h.0, h.1)

pub none_left : (n k : ℕ) → NoneBelow n k → n < k → ⊥
none_left n k h m = omega (arith, at_least n k h)

-- ---- A line piece by piece

-- word and place, then the argument or nothing, then LF
pub line_with_argument :
    (c : Code) → c.number ≤ 4
    → line (fields_of c) ≡ word_of c.number ++ tab ∷ register_text c.place ++ (tab ∷ decimal c.argument ++ line_feed ∷ [])
unfolding fields_of line joined
line_with_argument c h = simp (le-leb _ _ h, append_assoc)

pub line-without_argument :
    (c : Code) → 4 < c.number
    → line (fields_of c) ≡ word_of c.number ++ tab ∷ register_text c.place ++ line_feed ∷ []
unfolding fields_of line joined
line-without_argument c h = simp (lt-leb _ _ h)

-- ---- Two lines of the answer in rule 24.1

pub sheet_1 : instruction_text (GetVariable (Perm 1) 2) ++ at_text (Perm 1) ≡ bytes "get_variable\ty1\t2\nat\ty1\n"
unfolding instruction_text at_text line joined register_text decimal written
sheet_1 = refl

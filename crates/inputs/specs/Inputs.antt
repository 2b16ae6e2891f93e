-- Whether the input of a program came whole, or is long enough to be refused: rule 22.2.
use Rattle.std.specs.Prelude.{ℕ, zero, suc, ◌+◌, Bool, true, false, ◌||◌, leb, ℤ, pos, negsuc, Result, Ok, Err}
use Rattle.sizes.specs.Sizes.{sheet_bytes}
use Rattle.inputs.specs.declared.ReadAnswer.{ReadAnswer}
use Rattle.inputs.specs.declared.ReadAnswer.TheVariants.{AtTheEnd, BytesCame, Failed}

abbrev pub input_bytes : ℕ
input_bytes = sheet_bytes + 1

-- what a read answered: how many bytes came does not matter, but whether any did
abbrev pub read_answer : {E : Type 0} → Result ℕ E → ReadAnswer
read_answer (Ok zero) = AtTheEnd
read_answer (Ok (suc bytes)) = BytesCame
read_answer (Err failure) = Failed

-- its number: 0 at the end, one above where bytes came, and one below where it failed
abbrev pub number_of : ReadAnswer → ℤ
number_of AtTheEnd = pos 0
number_of BytesCame = pos 1
number_of Failed = negsuc 0

-- what a read answered, as one number
abbrev pub read_number : {E : Type 0} → Result ℕ E → ℤ
read_number (Ok zero) = pos 0
read_number (Ok (suc bytes)) = pos 1
read_number (Err failure) = negsuc 0

abbrev pub is_end : ℤ → Bool
is_end (pos zero) = true
is_end (pos (suc bytes)) = false
is_end (negsuc failure) = false

abbrev pub is_whole : ℕ → ℤ → Bool
is_whole came further = leb input_bytes came || is_end further

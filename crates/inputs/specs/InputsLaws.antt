-- A read's number: it is that of what the read answered, and its bits are 0 at the end of the input alone.
use Rattle.std.specs.Prelude.{ℕ, zero, suc, ◌≡◌, refl, eqb, ℤ, pos, negsuc, Result, Ok, Err}
use Rattle.std.proofs.Common.{arith, of_z, SFits, ne_eqb}
use Rattle.std.specs.Int.{w64}
use Rattle.inputs.specs.Inputs.{read_answer, number_of, read_number, is_end}

pub answer_numbered : {E : Type 0} (read : Result ℕ E) → number_of (read_answer read) ≡ read_number read
answer_numbered (Ok zero) = refl
answer_numbered (Ok (suc bytes)) = refl
answer_numbered (Err failure) = refl

pub end_bits : (answer : ℤ) → SFits w64 answer → eqb (of_z w64 answer) 0 ≡ is_end answer
end_bits (pos zero) fits = refl
end_bits (pos (suc bytes)) fits = ne_eqb (suc bytes) 0 (λ e. omega (arith, e))
end_bits (negsuc failure) fits = ne_eqb (of_z w64 (negsuc failure)) 0 (λ e. omega (arith, e, fits.sfits))

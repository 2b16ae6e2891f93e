-- Laws of the refusals: each has a number of its own, of 1 to 9; and a step that is not refused says nothing.
use Rattle.std.specs.Prelude.{ℕ, ◌≤◌, ◌≡◌, refl, true, false, Option, Some, None, eqb}
use Rattle.std.specs.Prelude.{if◌then◌else◌}
use Rattle.std.proofs.Common.{sym, ap, ◌∙◌, arith}
use Rattle.refusals.specs.declared.Refusal.{Refusal}
use Rattle.refusals.specs.declared.Refusal.TheVariants.{Form, Order, Size, Stop, Register, Slot, Full, Unreachable, Room}
use Rattle.refusals.specs.Refusals.{number_of, accepted, is_refused}

-- ---- The numbers

pub numbered : (refusal : Refusal) → (1 ≤ number_of refusal) × (number_of refusal ≤ number_of Room)
numbered Form = (omega arith, omega arith)
numbered Order = (omega arith, omega arith)
numbered Size = (omega arith, omega arith)
numbered Stop = (omega arith, omega arith)
numbered Register = (omega arith, omega arith)
numbered Slot = (omega arith, omega arith)
numbered Full = (omega arith, omega arith)
numbered Unreachable = (omega arith, omega arith)
numbered Room = (omega arith, omega arith)

abbrev numbered_by : ℕ → Refusal
numbered_by n =
    if eqb n 1 then Form
    else if eqb n 2 then Order
    else if eqb n 3 then Size
    else if eqb n 4 then Stop
    else if eqb n 5 then Register
    else if eqb n 6 then Slot
    else if eqb n 7 then Full
    else if eqb n 8 then Unreachable
    else Room

again : (refusal : Refusal) → numbered_by (number_of refusal) ≡ refusal
again Form = refl
again Order = refl
again Size = refl
again Stop = refl
again Register = refl
again Slot = refl
again Full = refl
again Unreachable = refl
again Room = refl

pub number-tells : (a b : Refusal) → number_of a ≡ number_of b → a ≡ b
number-tells a b e = sym (again a) ∙ ap numbered_by e ∙ again b

-- ---- Refused or not

pub not_refused : (refusal : Option Refusal) → is_refused refusal ≡ false → refusal ≡ accepted
not_refused None e = refl
not_refused (Some refusal) e = cc

pub refused_some : (refusal : Option Refusal) → is_refused refusal ≡ true → (r : Refusal) × (refusal ≡ Some r)
refused_some None e = cc
refused_some (Some refusal) e = (refusal, refl)

-- What an equation settles: no second answer fits what says what an answer is.
use Rattle.std.specs.Prelude.{◌≡◌}
use Rattle.std.proofs.Common.{ap, sym, ◌∙◌}

-- the result, the bytes handed back, or a lent table afterwards
pub no_second : {A : Type 0} {x y meaning : A} → x ≡ meaning → y ≡ meaning → x ≡ y
no_second x y = x ∙ sym y

-- of a gathering of parts each part that can be read off it
pub no_second_part : {A B : Type 0} {x y meaning : A} (part : A → B) → x ≡ meaning → y ≡ meaning → part x ≡ part y
no_second_part part x y = ap part (no_second x y)

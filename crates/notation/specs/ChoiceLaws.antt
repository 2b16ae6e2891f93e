-- Laws of tests and choices.
use Rattle.std.specs.Prelude.{◌≡◌, refl, Bool, true, false, ◌&&◌}
use Rattle.std.proofs.lemmas.Bool.{false≢true}
use Rattle.std.specs.Prelude.{if◌then◌else◌}

-- both tests hold where their conjunction does
pub both_true : (a b : Bool) → (a && b) ≡ true → (a ≡ true) × (b ≡ true)
both_true true b h = (refl, h)
both_true false b h = absurd (false≢true h)

-- what holds of both ends of a choice holds of it
pub either : {A : Type 0} (P : A → Type 0) (test : Bool) {a b : A} → P a → P b → P (if test then a else b)
either P true p q = p
either P false p q = q

-- also where each end may ask how the test came out
pub by_test :
    {A : Type 0} (P : A → Type 0) (test : Bool) {a b : A} → (test ≡ true → P a) → (test ≡ false → P b)
    → P (if test then a else b)
by_test P true p q = p refl
by_test P false p q = q refl

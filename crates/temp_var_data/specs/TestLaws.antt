-- Laws of tests.
use Rattle.std.specs.Prelude.{◌≡◌, refl, Bool, true, false, ◌||◌, ◌↔◌, ◌⊎◌}
use Rattle.std.proofs.Common.{sym, inl, inr, ⊎_elim}
use Rattle.std.proofs.lemmas.Bool.{false≢true}

pub refuted : (t : Bool) → (t ≡ true → ⊥) → t ≡ false
refuted true h = absurd (h refl)
refuted false h = refl

-- two tests are the same where each holds if the other does
pub same_tests : (a b : Bool) → (a ≡ true → b ≡ true) → (b ≡ true → a ≡ true) → a ≡ b
same_tests true b f g = sym (f refl)
same_tests false b f g = sym (refuted b (λ h. false≢true (g h)))

pub either_exactly : (a b : Bool) → ((a || b) ≡ true) ↔ ((a ≡ true) ⊎ (b ≡ true))
either_exactly true b = (λ h. inl refl, λ s. refl)
either_exactly false b = (inr, ⊎_elim (λ h. absurd (false≢true h)) (λ h. h))

-- A check sheet is right exactly if it is right on names.
use Rattle.std.specs.Prelude.{ℕ, ◌≡◌, refl, true, ◌↔◌}
use Rattle.std.proofs.Common.{sym, subst, ◌∙◌}
use mathlib.Core.List.{List, [], ◌∷◌, map, head-eq_of_cons-eq, tail-eq_of_cons-eq}
use Rattle.steps.specs.declared.CheckLine.{CheckLine}
use Rattle.steps.specs.Order.{fresh_order}
use Rattle.machine.specs.Machine.{Contents, run}
use Rattle.machine.specs.Wanted.{wanted}
use Rattle.machine.specs.Right.{AllHold, RightFor, Right}
use Rattle.classes.specs.Forces.{Holds}
use Rattle.symbolic.specs.Symbolic.{listed, all_accepted}
use Rattle.on_names.specs.OnNames.{both, first, second, symbols_of, RightUnder, RightOnNames}
use Rattle.on_names.proofs.StandsLaws.{Stands, sheet_stands}
use Rattle.on_names.proofs.ChoiceLaws.{Agrees, entry_of, number_of, left_by_of, values_agree, chosen, chosen_agrees}

-- ---- Pairs that hold

hold_values : (ρ : ℕ → ℕ) (pairs : List (ℕ × ℕ)) → AllHold (map (both ρ) pairs) ↔ Holds ρ pairs
unfolding Holds
hold_values ρ [] = (λ h. h, λ h. h)
hold_values ρ ((x, y) ∷ pairs) =
    let rest = hold_values ρ pairs in (λ h. (h.0, rest.0 h.1), λ h. (h.0, rest.1 h.1))

-- equalities that stand for pairs all hold exactly if the pairs do
hold_stands : (ρ : ℕ → ℕ) (equalities pairs : List (ℕ × ℕ)) → equalities ≡ map (both ρ) pairs → AllHold equalities ↔ Holds ρ pairs
hold_stands ρ equalities pairs e = subst (λ (l : List (ℕ × ℕ)). AllHold l ↔ Holds ρ pairs) (sym e) (hold_values ρ pairs)

-- claims agree exactly if they hold
pub claims_hold : (ρ : ℕ → ℕ) (claims : List (ℕ × ℕ)) → (map (first ρ) claims ≡ map (second ρ) claims) ↔ Holds ρ claims
unfolding Holds
claims_hold ρ [] = (λ h. tt, λ h. refl)
claims_hold ρ ((x, y) ∷ claims) =
    let rest = claims_hold ρ claims in (
      λ h. (head-eq_of_cons-eq h, rest.0 (tail-eq_of_cons-eq h)),
      λ h. (let here = h.0 in let others = rest.1 h.1 in λ i. here i ∷ others i),
    )

-- ---- One choice

module _
    (lines : List CheckLine)
    (good : all_accepted fresh_order lines ≡ true)
    {ρ : ℕ → ℕ}
    {entry : Contents}
    {number : ℕ → ℕ}
    {left_by : ℕ → ℕ → ℕ}
    (agrees : Agrees ρ entry number left_by)
  where
    stands : Stands ρ (symbols_of lines) (run entry number left_by lines) (wanted entry number lines)
    stands = sheet_stands lines good agrees

    demands_hold : AllHold (run entry number left_by lines).equalities ↔ Holds ρ (listed (symbols_of lines).doing.demands)
    demands_hold = hold_stands ρ _ _ stands.demands

    wants_hold : AllHold (wanted entry number lines).equalities ↔ Holds ρ (listed (symbols_of lines).wanting.wants)
    wants_hold = hold_stands ρ _ _ stands.wants

    right_under : RightFor entry number left_by lines → RightUnder ρ (symbols_of lines)
    right_under r =
        record {
          equalities = (λ h. wants_hold.0 (r.equalities.0 (demands_hold.1 h)), λ h. demands_hold.0 (r.equalities.1 (wants_hold.1 h)));
          arguments = λ h. sym stands.read ∙ r.arguments (demands_hold.1 h) ∙ stands.arguments;
          subterms = λ h. sym stands.made ∙ r.subterms (demands_hold.1 h) ∙ stands.due;
        }

    under_right : RightUnder ρ (symbols_of lines) → RightFor entry number left_by lines
    under_right r =
        record {
          equalities = (λ h. wants_hold.1 (r.equalities.0 (demands_hold.0 h)), λ h. demands_hold.1 (r.equalities.1 (wants_hold.0 h)));
          arguments = λ h. stands.read ∙ r.arguments (demands_hold.0 h) ∙ sym stands.arguments;
          subterms = λ h. stands.made ∙ r.subterms (demands_hold.0 h) ∙ sym stands.due;
        }

-- ---- Every choice

pub right_on_names :
    (lines : List CheckLine) → all_accepted fresh_order lines ≡ true
    → Right lines ↔ RightOnNames (symbols_of lines)
right_on_names lines good = (
  λ right ρ. right_under lines good (values_agree ρ) (right (entry_of ρ) (number_of ρ) (left_by_of ρ)),
  λ right entry number left_by. under_right lines good (chosen_agrees entry number left_by) (right (chosen entry number left_by)),
)

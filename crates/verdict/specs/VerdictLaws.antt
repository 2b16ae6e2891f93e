-- The verdict says exactly whether the instructions of a check sheet are right.
use Rattle.std.specs.Prelude.{ℕ, ◌≡◌, refl, Bool, true, false, List, [], ◌∷◌, map, ◌↔◌}
use Rattle.std.proofs.Common.{sym, ap, eq-eqb, eqb-true}
use Rattle.std.proofs.lemmas.Bool.{false≢true}
use Rattle.notation.specs.ChoiceLaws.{both_true}
use Rattle.classes.specs.Classes.{in_names, label_of, labelling}
use Rattle.classes.specs.Forces.{Holds}
use Rattle.classes.specs.ForcesLaws.{labels_hold, labels_force, all_same_forced, forced_all_same}
use Rattle.steps.specs.declared.CheckLine.{CheckLine}
use Rattle.steps.specs.Order.{fresh_order}
use Rattle.machine.specs.Right.{Right}
use Rattle.symbolic.specs.declared.Symbols.{Symbols}
use Rattle.symbolic.specs.Symbolic.{listed, all_accepted}
use Rattle.on_names.specs.OnNames.{symbols_of, named, RightOnNames}
use Rattle.on_names.proofs.StandsLaws.{sheet_labelled}
use Rattle.on_names.proofs.NamesLaws.{claims_hold, right_on_names}
use Rattle.verdict.specs.Verdict.{same_subterms, decided_by, decided}

-- ---- Subterms

abbrev step_of : List (ℕ × ℕ) → ℕ
step_of [] = 0
step_of (p ∷ ps) = p.0

abbrev number-of : List (ℕ × ℕ) → ℕ
number-of [] = 0
number-of (p ∷ ps) = p.1

abbrev others-of : List (ℕ × ℕ) → List (ℕ × ℕ)
others-of [] = []
others-of (p ∷ ps) = ps

abbrev is_some : List (ℕ × ℕ) → Bool
is_some [] = false
is_some (p ∷ ps) = true

-- subterms that agree by their labels are the same under every choice that makes the equalities hold
pub subterms_agree :
    (ρ : ℕ → ℕ) (pairs made due : List (ℕ × ℕ)) → Holds ρ pairs → same_subterms (labelling pairs) made due ≡ true
    → map (named ρ) made ≡ map (named ρ) due
unfolding same_subterms
subterms_agree ρ pairs [] [] h e = refl
subterms_agree ρ pairs [] (other ∷ others) h e = absurd (false≢true e)
subterms_agree ρ pairs (subterm ∷ subterms) [] h e = absurd (false≢true e)
subterms_agree ρ pairs ((step, name) ∷ subterms) ((other_step, other) ∷ others) h e =
    let b = both_true _ _ e in
    let d = both_true _ _ b.1 in
    let s = eqb-true step other_step b.0 in
    let n = labels_force ρ pairs h name other (eqb-true _ _ d.0) in
    let rest = subterms_agree ρ pairs subterms others h d.1 in
    λ i. (s i, n i) ∷ rest i

-- and those that are the same under the labels agree
pub agreeing_subterms :
    (labels : List ℕ) (made due : List (ℕ × ℕ)) → map (named (label_of labels)) made ≡ map (named (label_of labels)) due
    → same_subterms labels made due ≡ true
unfolding same_subterms
agreeing_subterms labels [] [] e = refl
agreeing_subterms labels [] (other ∷ others) e = absurd (false≢true (ap is_some e))
agreeing_subterms labels (subterm ∷ subterms) [] e = absurd (false≢true (sym (ap is_some e)))
agreeing_subterms labels ((step, name) ∷ subterms) ((other_step, other) ∷ others) e =
    let s : step ≡ other_step = ap step_of e in
    let n : label_of labels name ≡ label_of labels other = ap number-of e in
    simp (eq-eqb step other_step s, eq-eqb _ _ n, agreeing_subterms labels subterms others (ap others-of e))

-- ---- The verdict

-- it says what holds for every choice of values for the names
pub decided_right : (s : Symbols) → decided s ≡ true → RightOnNames s
unfolding decided_by
decided_right s e ρ =
    let demands = listed s.doing.demands in
    let a = both_true _ _ e in
    let b = both_true _ _ a.1 in
    let c = both_true _ _ b.1 in
    record {
      equalities = (all_same_forced demands _ a.0 ρ, all_same_forced _ demands c.1 ρ);
      arguments = λ h. (claims_hold ρ (listed s.claims)).1 (all_same_forced demands _ b.0 ρ h);
      subterms = λ h. subterms_agree ρ demands (listed s.doing.made) (listed s.wanting.due) h c.0;
    }

pub right_decided :
    (s : Symbols) → in_names (listed s.doing.demands) ≡ true → in_names (listed s.wanting.wants) ≡ true
    → RightOnNames s → decided s ≡ true
unfolding decided_by
right_decided s d w right =
    let demands = listed s.doing.demands in
    simp (
      forced_all_same demands _ d (λ ρ h. (right ρ).equalities.0 h),
      forced_all_same demands _ d (λ ρ h. (claims_hold ρ (listed s.claims)).0 ((right ρ).arguments h)),
      agreeing_subterms (labelling demands) (listed s.doing.made) (listed s.wanting.due) ((right (label_of (labelling demands))).subterms (labels_hold demands d)),
      forced_all_same _ demands w (λ ρ h. (right ρ).equalities.1 h),
    )

-- so it says, of lines in order and in their sizes, whether the instructions are right by rule 21.5
pub verdict_exactly :
    (lines : List CheckLine) → all_accepted fresh_order lines ≡ true → (decided (symbols_of lines) ≡ true) ↔ Right lines
verdict_exactly lines good = (
  λ e. (right_on_names lines good).1 (decided_right (symbols_of lines) e),
  λ right. right_decided
      (symbols_of lines)
      (sheet_labelled lines good).demands
      (sheet_labelled lines good).wants
      ((right_on_names lines good).0 right),
)

-- Rule 25.2 of check sheets: no second answer fits, since what meets a contract of the check side is settled.
use Rattle.std.specs.Prelude.{ℕ, ◌≡◌, Bool, List}
use Rattle.std.proofs.Common.{sym, subst}
use Rattle.notation.specs.EquationLaws.{no_second, no_second_part}
use Rattle.printing.specs.Printing.{Put}
use Rattle.printing.specs.PrintingLaws.{put_unique}
use Rattle.steps.specs.declared.Judged.{Judged}
use Rattle.symbolic.specs.declared.Symbols.{Symbols}
use Rattle.symbolic.specs.Symbolic.{Taking, taking_of}
use Rattle.check_sheets.specs.CheckSheets.{reading, ByVerdict}
use Rattle.check_sheets.specs.TellsLaws.{tells_once}

-- ---- Of one sheet there is one verdict

pub by-verdict_unique :
    {sheet : List ℕ} {Holds Other : Bool → Type 0} (first : ByVerdict sheet Holds) (second : ByVerdict sheet Other)
    → first.right ≡ second.right
by-verdict_unique {sheet} first second = tells_once (reading sheet) first.tells second.tells

by-verdict-both :
    {sheet : List ℕ} {Holds Other : Bool → Type 0} → ByVerdict sheet Holds → ByVerdict sheet Other
    → ByVerdict sheet (λ right. Holds right × Other right)
by-verdict-both {Other = Other} first second =
    record {
      right = first.right;
      tells = first.tells;
      holds = (first.holds, subst Other (sym (by-verdict_unique first second)) second.holds);
    }

-- `check_sheets`: answer; `fenomirask`: fenomirask_check
pub answer-settled :
    {sheet : List ℕ} {A B : Type 0} {x x' : A} {after after' : B} {answer : Bool → A} {filled : Bool → B}
    → ByVerdict sheet (λ right. (x ≡ answer right) × (after ≡ filled right))
    → ByVerdict sheet (λ right. (x' ≡ answer right) × (after' ≡ filled right))
    → (x ≡ x') × (after ≡ after')
answer-settled first second =
    let both = (by-verdict-both first second).holds in
    (no_second both.0.0 both.1.0, no_second both.0.1 both.1.1)

-- `replies`: put_check_reply
pub reply_settled :
    {sheet out : List ℕ} {at next next' : ℕ} {after after' : List ℕ} {text : Bool → List ℕ}
    → ByVerdict sheet (λ right. Put out at (text right) next after)
    → ByVerdict sheet (λ right. Put out at (text right) next' after')
    → (next ≡ next') × (after ≡ after')
reply_settled first second =
    let both = (by-verdict-both first second).holds in
    put_unique both.0 both.1

-- ---- The run on names, result

-- `symbolic`: take_line
pub taking_of_unique :
    {symbols symbols' : Symbols} {r r' : Judged} {meaning : Taking}
    → taking_of symbols r ≡ meaning → taking_of symbols' r' ≡ meaning → (symbols ≡ symbols') × (r ≡ r')
taking_of_unique x y = (no_second_part (λ (t : Taking). t.symbols) x y, no_second_part judged_of x y)
  where
    judged_of : Taking → Judged
    judged_of t = record { order = t.order; refusal = t.refusal }

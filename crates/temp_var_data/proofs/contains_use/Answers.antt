-- `temp_var_data::contains_use`: the slice's own test and the definition's compare entry by entry alike. Assumes nothing.
use Rattle.std.specs.Prelude.{ℕ, ◌≡◌, refl, Bool, ◌||◌, List, [], ◌∷◌, eqb}
use Rattle.std.specs.List.{list_any}
use Rattle.std.proofs.Common.{sym, ap, ◌∙◌, eqb-true, eq-eqb}
use Rattle.std.proofs.Math.Path.{ap₂}
use Rattle.temp_var_data.specs.TestLaws.{same_tests}
use Rattle.temp_var_data.specs.Lists.{any}
use Rattle.temp_var_data.specs.Uses.{contains_use}
use Rattle.temp_var_data.proofs.contains_use.Goals as goal

either_order : (m n : ℕ) → eqb m n ≡ eqb n m
either_order m n =
    same_tests (eqb m n) (eqb n m) (λ e. eq-eqb n m (sym (eqb-true m n e))) (λ e. eq-eqb m n (sym (eqb-true n m e)))

listed : (code : ℕ) (ns : List ℕ) → list_any (λ entry. eqb entry code) ns ≡ any (λ entry. eqb code entry) ns
unfolding any
listed code [] = refl
listed code (n ∷ ns) = ap₂ (λ (a b : Bool). a || b) (either_order n code) (listed code ns)

pub returns : goal.returns
unfolding contains_use
returns c = c.contains.ensures.value ∙ listed c.args.code c.uses_of.result.now ∙ ap (any _) c.uses_of.ensures

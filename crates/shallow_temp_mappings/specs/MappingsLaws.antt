-- Laws of mappings: what a register maps to after one was mapped.
use Rattle.std.specs.Prelude.{Some, None, ltb, ℕ, suc, ◌≤◌, ◌≡◌, refl, ◌≢◌, true, false, List, leb, length, get_or, set}
use Rattle.std.proofs.Common.{ap, ◌∙◌, arith, get_or-set_same, get_or-set_other, sym, le-leb, ltb-true, ltb-false}
use borrow.Author.Tests.{lt-leb}
use Rattle.std.proofs.lemmas.Option.{none-some, same_Some}
use Rattle.std.specs.Bool.{then_some}
use Rattle.std.specs.Prelude.{if◌then◌else◌}
use Rattle.sizes.specs.Sizes.{variables, registers}
use Rattle.shallow_temp_mappings.specs.Mappings.{unmapped, mapped_at, variable_at, mapped_with}

pub mapped_same :
    (mappings : List ℕ) (r v : ℕ) → length mappings ≡ suc registers → r ≤ registers → mapped_at (mapped_with mappings r v) r ≡ v
unfolding mapped_at mapped_with
mapped_same mappings r v size h = simp (le-leb _ _ h) (get_or-set_same mappings r v 0 (omega arith))

pub mapped_other :
    (mappings : List ℕ) (r q v : ℕ) → r ≢ q → mapped_at (mapped_with mappings r v) q ≡ mapped_at mappings q
unfolding mapped_at mapped_with
mapped_other mappings r q v differ =
    ap (λ (n : ℕ). if leb q registers then n else unmapped)
    (elim (leb r registers) as (λ t. get_or (if t then set mappings r v else mappings) q 0 ≡ get_or mappings q 0) [
      | true ↦ get_or-set_other mappings r q v 0 (omega arith)
      | false ↦ refl
    ])

-- a register to which no variable is mapped, and one to which a variable is
pub variable_at-none : (mappings : List ℕ) (r : ℕ) → variable_at mappings r ≡ None → leb variables (mapped_at mappings r) ≡ true
unfolding variable_at
variable_at-none mappings r e =
    let v = mapped_at mappings r in
    (elim (ltb v variables) as (λ t. ltb v variables ≡ t → then_some t v ≡ None → leb variables v ≡ true) [
      | true ↦ λ t same. absurd (none-some v (sym same))
      | false ↦ λ t same. le-leb _ _ (ltb-false v variables t)
    ])
    refl e

pub variable_at-some :
    (mappings : List ℕ) (r v : ℕ) → variable_at mappings r ≡ Some v → (mapped_at mappings r ≡ v) × (leb variables v ≡ false)
unfolding variable_at
variable_at-some mappings r v e =
    let w = mapped_at mappings r in
    (elim (ltb w variables) as (λ t. ltb w variables ≡ t → then_some t w ≡ Some v → (w ≡ v) × (leb variables v ≡ false)) [
      | true ↦ λ t same. (let here = same_Some w v same in (here, ap (leb variables) (sym here) ∙ lt-leb _ _ (ltb-true w variables t)))
      | false ↦ λ t same. absurd (none-some v same)
    ])
    refl e

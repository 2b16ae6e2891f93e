-- Laws of the least number that passes a test: where it is, and that there is no second one.
use Rattle.std.specs.Prelude.{ℕ, suc, ◌≤◌, ◌≡◌, refl, Bool, true, false, eqb, leb}
use Rattle.std.proofs.Common.{ap, sym, ◌∙◌, arith, leb-true, leb-false, eqb-true}
use Rattle.std.proofs.lemmas.Bool.{false≢true, eqb-false}
use Rattle.notation.specs.Least.{Least}

module _ (test : ℕ → Bool) (n : ℕ) where
  pub least_here : test n ≡ true → Least test n n
  least_here t = record { from = omega arith; passes = t; others = λ q a b. absurd (omega arith) }

  pub least_later : (r : ℕ) → test n ≡ false → Least test (suc n) r → Least test n r
  least_later r t l =
      record {
        from = omega (arith, l.from);
        passes = l.passes;
        others = λ q a b. elim (eqb n q) as (λ x. eqb n q ≡ x → test q ≡ false) [
          | true ↦ λ e. ap test (sym (eqb-true n q e)) ∙ t
          | false ↦ λ e. l.others q (omega (arith, eqb-false n q e)) b
        ]
            refl;
      }

  none-less : (r s : ℕ) → Least test n r → Least test n s → r ≤ s
  none-less r s l m =
      elim (leb r s) as (λ x. leb r s ≡ x → r ≤ s) [
        | true ↦ λ e. leb-true r s e
        | false ↦ λ e. absurd (false≢true (sym (l.others s m.from (leb-false r s e)) ∙ m.passes))
      ]
      refl

  pub least_one : (r s : ℕ) → Least test n r → Least test n s → r ≡ s
  least_one r s l m = omega (arith, none-less r s l m, none-less s r m l)

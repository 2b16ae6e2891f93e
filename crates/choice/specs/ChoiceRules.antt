-- The choice for a variable as plain facts: rules 8.2 and 8.3.
use Rattle.std.specs.Prelude.{Some, None, ℕ, zero, suc, ◌+◌, ◌-◌, ◌≤◌, ◌<◌, ◌≡◌, refl, Bool, true, false, List, ◌↔◌, eqb}
use Rattle.std.proofs.Common.{ap, sym, subst, arith, eqb-true}
use Rattle.std.proofs.lemmas.Bool.{eqb-false}
use Rattle.std.specs.Prelude.{if◌then◌else◌}
use Rattle.notation.specs.Lists.{numbers_from}
use Rattle.sizes.specs.Sizes.{registers}
use Rattle.allocator_state.specs.declared.Counters.{Counters}
use Rattle.choice.specs.Choice.{first, registers_from, first_unused, least_free, otherwise, chosen}

never : (r : ℕ) → None ≡ Some r → ⊥
never r e = let z : ◌≡◌ {A = ℕ} 0 1 = cc in omega arith

-- r is the least from n on, below an end, that passes
pub record Least (test : ℕ → Bool) (n end r : ℕ) : Type 0 where
  pub from : n ≤ r
  pub below : r < end
  pub passes : test r ≡ true
  pub others : (q : ℕ) → n ≤ q → q < r → test q ≡ false

least_here : (test : ℕ → Bool) (n end r : ℕ) → n ≡ r → r < end → test n ≡ true → Least test n end r
least_here test n end r e h t =
    record {
      from = omega arith;
      below = h;
      passes = subst (λ (x : ℕ). test x ≡ true) e t;
      others = λ q a b. absurd (omega arith);
    }

least_later : (test : ℕ → Bool) (n end r : ℕ) → test n ≡ false → Least test (suc n) end r → Least test n end r
least_later test n end r t l =
    record {
      from = omega (arith, l.from);
      below = l.below;
      passes = l.passes;
      others = λ q a b. elim (eqb n q) as (λ x. eqb n q ≡ x → test q ≡ false) [
        | true ↦ λ e. subst (λ (x : ℕ). test x ≡ false) (eqb-true n q e) t
        | false ↦ λ e. l.others q (omega (arith, eqb-false n q e)) b
      ]
          refl;
    }

first_least : (test : ℕ → Bool) (k n r : ℕ) → first test (numbers_from n k) ≡ Some r → Least test n (n + k) r
unfolding first numbers_from
first_least test zero n r e = absurd (never r e)
first_least test (suc k) n r e =
    (elim (test n) as (λ t. test n ≡ t → (if t then Some n else first test (numbers_from (suc n) k)) ≡ Some r → Least test n (n + suc k) r) [
      | true ↦ λ t e. (let same : n ≡ r = cc in least_here test n (n + suc k) r same (omega arith) t)
      | false ↦ λ t e. (let s : suc n + k ≡ n + suc k = omega arith in least_later test n (n + suc k) r t (rw s at (first_least test k (suc n) r e)))
    ])
    refl e

least_first : (test : ℕ → Bool) (k n r : ℕ) → Least test n (n + k) r → first test (numbers_from n k) ≡ Some r
unfolding first numbers_from
least_first test zero n r l = absurd (omega (arith, l.from, l.below))
least_first test (suc k) n r l =
    elim (eqb n r) as (λ x. eqb n r ≡ x → (if test n then Some n else first test (numbers_from (suc n) k)) ≡ Some r) [
      | true ↦ λ x. (let e = eqb-true n r x in
          let t : test n ≡ true = subst (λ (y : ℕ). test y ≡ true) (sym e) l.passes in
          simp t (ap Some e))
      | false ↦ λ x. (let d = eqb-false n r x in
          let t : test n ≡ false = l.others n (omega arith) (omega (arith, d, l.from)) in
          simp t (least_first test k (suc n) r (record {
            from = omega (arith, d, l.from);
            below = omega (arith, l.below);
            passes = l.passes;
            others = λ q a b. l.others q (omega arith) b;
          })))
    ]
    refl

-- the least register from a start
pub least_exactly :
    (test : ℕ → Bool) (n r : ℕ) → n ≤ registers → (first test (registers_from n) ≡ Some r) ↔ Least test n (suc registers) r
unfolding registers_from
least_exactly test n r h =
    let e : n + (suc registers - n) ≡ suc registers = omega arith in
    (λ x. rw e at (first_least test (suc registers - n) n r x), λ l. least_first test (suc registers - n) n r (rw e l))

-- rule 8.2: a use whose register is not in use gives it, whatever is to be avoided
pub use_set_wins :
    (c : Counters) (uses : List ℕ) (avoided r : ℕ) → first_unused c uses ≡ Some r → chosen c uses avoided ≡ Some r
unfolding chosen otherwise
use_set_wins c uses avoided r e = rw e

-- rule 8.3: otherwise the least that is free
pub otherwise_least :
    (c : Counters) (uses : List ℕ) (avoided : ℕ) → first_unused c uses ≡ None → chosen c uses avoided ≡ least_free c avoided
unfolding chosen otherwise
otherwise_least c uses avoided e = rw e

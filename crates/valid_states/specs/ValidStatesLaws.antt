-- Laws of valid states: every number below a count, one at a time and as a plain fact, and a fresh clause's state.
use Prim.Native.Nat.{ℕ, zero, suc, ◌+◌, ◌≤◌, ◌<◌}
use Rattle.std.specs.Prelude.{◌≡◌, Bool, true, false, not, ◌&&◌, ◌||◌, ◌↔◌, ◌⊎◌, eqb, leb, get_or}
use Rattle.std.proofs.Math.Path.{refl, sym, ap}
use Rattle.std.proofs.Common.{ap₂, ◌∙◌, inl, inr, eq-or-lt_of_le, add-one, leb-true, ltb-true, lt-ltb, eqb-true, eq-eqb}
use Rattle.std.proofs.lemmas.Bool.{false≢true, not-true, not-false}
use Rattle.std.proofs.Math.Bool.{and-false}
use mathlib.Core.Logic.Iff
use Rattle.std.proofs.Math.Logic.{⊎_elim}
use native.Mathlib.Omega.{arith}
use Rattle.notation.specs.ChoiceLaws.{both_true}
use Rattle.sizes.specs.Sizes.{variables, registers, freed_registers}
use Rattle.bit_set.specs.BitSet.{has}
use Rattle.variable_records.specs.Rows.{is_temporary}
use Rattle.temp_var_data.specs.TestLaws.{either_exactly}
use Rattle.shallow_temp_mappings.specs.Mappings.{unmapped}
use Rattle.allocator_state.specs.declared.Counters.{Counters}
use Rattle.debray_allocator.specs.declared.State.{State}
use Rattle.debray_allocator.specs.State.{fresh_state}
use Rattle.valid_states.specs.ValidStates.{all_below, counters_fit, variable_fits, is_variable, mapping_fits, freed_register_fits, freed_slot_fits, are_variables, are_permanent, branch_fits, is_valid}

-- ---- A chain of tests

pub passed : {a b r : Bool} → a ≡ true → r ≡ b → r ≡ (a && b)
passed e h = rw e h

pub stopped : {a : Bool} (b : Bool) → a ≡ false → false ≡ (a && b)
stopped b e = rw e

-- a test that a function answered, and what `!` made of it
pub held : {answer test : Bool} → answer ≡ test → not answer ≡ false → test ≡ true
held e h = sym e ∙ not-false _ h

pub missed : {answer test : Bool} → answer ≡ test → not answer ≡ true → test ≡ false
missed e h = sym e ∙ not-true _ h

pub joined : {a b x y r : Bool} → r ≡ (a && b) → a ≡ x → b ≡ y → r ≡ (x && y)
joined e p q = e ∙ ap₂ ◌&&◌ p q

-- a test without which a chain fails
needed : (test chain : Bool) → (test ≡ false → chain ≡ false) → chain ≡ true → test ≡ true
needed true chain f h = refl
needed false chain f h = sym (f refl) ∙ h

-- ---- Every number below n

module _ (test : ℕ → Bool) where
  pub below_none : all_below 0 test ≡ true
  unfolding all_below
  below_none = refl

  -- one more passes
  pub below_next : {t : Bool} (i : ℕ) → t ≡ test i → t ≡ true → all_below i test ≡ true → all_below (i + 1) test ≡ true
  unfolding all_below
  below_next i e h all = rw (add-one i) (simp (all, sym e ∙ h))

  pub below_all : (n i : ℕ) → all_below n test ≡ true → i < n → test i ≡ true
  unfolding all_below
  below_all zero i h l = absurd (omega arith)
  below_all (suc n) i h l =
      let b = both_true (all_below n test) (test n) h in
      ⊎_elim (λ same. ap test same ∙ b.1) (λ less. below_all n i b.0 less) (eq-or-lt_of_le (let m : i ≤ n = omega arith in m))

  pub all_below_lem : (n : ℕ) → ((i : ℕ) → i < n → test i ≡ true) → all_below n test ≡ true
  unfolding all_below
  all_below_lem zero h = refl
  all_below_lem (suc n) h = simp (all_below_lem n (λ i l. h i (omega arith)), h n (omega arith))

  pub below_exactly : (n : ℕ) → (all_below n test ≡ true) ↔ ((i : ℕ) → i < n → test i ≡ true)
  below_exactly n = (λ h i. below_all n i h, all_below_lem n)

  -- one does not pass
  pub below_fails : {t : Bool} (n i : ℕ) → i < n → t ≡ test i → t ≡ false → false ≡ all_below n test
  below_fails n i l e f =
      elim (all_below n test) as (λ b. all_below n test ≡ b → false ≡ b)
      [ true ↦ λ h. sym (sym e ∙ f) ∙ below_all n i h l | false ↦ λ h. refl ]
      refl

  -- all of them have passed
  pub below_end : (n i : ℕ) → n ≤ i → i ≤ n → all_below i test ≡ true → true ≡ all_below n test
  below_end n i l m h = let e : i ≡ n = omega arith in sym (rw e at h)

-- ---- What the counters count

module _ (c : Counters) (h : counters_fit c ≡ true) where
  pub records_fit : c.records ≤ variables
  records_fit = leb-true _ _ (needed (leb c.records variables) (counters_fit c) (λ e. simp (e, and-false)) h)

  pub freed_registers_fit_lem : c.freed_registers ≤ freed_registers
  freed_registers_fit_lem =
      leb-true _ _ (needed (leb c.freed_registers freed_registers) (counters_fit c) (λ e. simp (e, and-false)) h)

-- ---- As plain facts

both_exactly : (a b : Bool) {A B : Type 0} → (a ≡ true) ↔ A → (b ≡ true) ↔ B → ((a && b) ≡ true) ↔ (A × B)
both_exactly a b f g = (
  λ h. (let p = both_true a b h in (f.0 p.0, g.0 p.1)),
  λ p. simp (f.1 p.0, g.1 p.1),
)

-- every member of a set passes a test
module _ (set : ℕ) (test : ℕ → Bool) where
  member_passes : (v : ℕ) → ((not (has set v) || test v) ≡ true) ↔ (has set v ≡ true → test v ≡ true)
  member_passes v =
      elim (has set v) as (λ t. ((not t || test v) ≡ true) ↔ (t ≡ true → test v ≡ true)) [
        | true ↦ (λ h e. h, λ f. f refl)
        | false ↦ (λ h e. absurd (false≢true e), λ f. refl)
      ]

  members_exactly :
      (all_below variables (λ v. not (has set v) || test v) ≡ true) ↔ ((v : ℕ) → v < variables → has set v ≡ true → test v ≡ true)
  members_exactly =
      let all = below_exactly (λ v. not (has set v) || test v) variables in (
        λ h v l. (member_passes v).0 (all.0 h v l),
        λ f. all.1 (λ v l. (member_passes v).1 (f v l)),
      )

module _ (s : State) where
  -- a mapping names a temporary, or none
  pub mapping_exactly :
      (r : ℕ)
      → (mapping_fits s r ≡ true)
      ↔ ((get_or s.mappings r 0 ≡ unmapped)
      ⊎ ((get_or s.mappings r 0 < s.counters.records) × (is_temporary s.records (get_or s.mappings r 0) ≡ true)))
  mapping_exactly r =
      let v = get_or s.mappings r 0 in
      let either = either_exactly (eqb v unmapped) (is_variable s v && is_temporary s.records v) in
      let both = both_exactly (is_variable s v) (is_temporary s.records v) (ltb-true v _, lt-ltb v _) (λ h. h, λ h. h) in (
        λ h. ⊎_elim (λ e. inl (eqb-true v unmapped e)) (λ e. inr (both.0 e)) (either.0 h),
        λ m. either.1 (⊎_elim (λ e. inl (eq-eqb v unmapped e)) (λ e. inr (both.1 e)) m),
      )

  pub are_variables_exactly :
      (set : ℕ) → (are_variables s set ≡ true) ↔ ((v : ℕ) → v < variables → has set v ≡ true → v < s.counters.records)
  are_variables_exactly set =
      let all = members_exactly set (is_variable s) in (
        λ h v l m. ltb-true v _ (all.0 h v l m),
        λ f. all.1 (λ v l m. lt-ltb v _ (f v l m)),
      )

  permanent_exactly :
      (v : ℕ)
      → ((is_variable s v && not (is_temporary s.records v)) ≡ true)
      ↔ ((v < s.counters.records) × (is_temporary s.records v ≡ false))
  permanent_exactly v = both_exactly (is_variable s v) (not (is_temporary s.records v)) (ltb-true v _, lt-ltb v _) (not-true _, ap not)

  -- a branch's recorded set has permanent variables alone
  pub are_permanent_exactly :
      (set : ℕ)
      → (are_permanent s set ≡ true)
      ↔ ((v : ℕ) → v < variables → has set v ≡ true → (v < s.counters.records) × (is_temporary s.records v ≡ false))
  are_permanent_exactly set =
      let all = members_exactly set (λ v. is_variable s v && not (is_temporary s.records v)) in (
        λ h v l m. (permanent_exactly v).0 (all.0 h v l m),
        λ f. all.1 (λ v l m. (permanent_exactly v).1 (f v l m)),
      )

  -- rule 17.4: every number that counts fits
  pub valid_exactly :
      (is_valid s ≡ true)
      ↔ ((counters_fit s.counters ≡ true)
      × ((v : ℕ) → v < s.counters.records → variable_fits s v ≡ true)
      × ((r : ℕ) → r < registers + 1 → mapping_fits s r ≡ true)
      × ((i : ℕ) → i < s.counters.freed_registers → freed_register_fits s i ≡ true)
      × ((i : ℕ) → i < s.counters.freed_slots → freed_slot_fits s i ≡ true)
      × ((level : ℕ) → level < s.counters.open_branches → branch_fits s level ≡ true))
  unfolding is_valid
  valid_exactly =
      let fits =
      both_exactly (counters_fit s.counters) _ Iff.rfl
      (both_exactly _ _ (below_exactly (variable_fits s) s.counters.records)
      (both_exactly _ _ (below_exactly (mapping_fits s) (registers + 1))
      (both_exactly _ _ (below_exactly (freed_register_fits s) s.counters.freed_registers)
      (both_exactly _ _ (below_exactly (freed_slot_fits s) s.counters.freed_slots)
      (below_exactly (branch_fits s) s.counters.open_branches)))))
      in (
        λ h. (let p = fits.0 h in (p.0, p.1.0, p.1.1.0, p.1.1.1.0, p.1.1.1.1.0, p.1.1.1.1.1)),
        λ p. fits.1 (p.0, (p.1, (p.2, (p.3, (p.4, p.5))))),
      )

-- ---- A fresh clause is valid (rule 17.7)

pub fresh_valid : is_valid fresh_state ≡ true
unfolding is_valid all_below has
fresh_valid = refl

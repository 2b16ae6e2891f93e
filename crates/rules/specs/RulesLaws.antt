-- Laws that the rules easily missed are read off.
use Prim.Native.Nat.{ℕ, zero, suc, ◌%◌, ◌≤◌, ◌<◌}
use Rattle.std.specs.Prelude.{Option, Some, None, ◌≡◌, Bool, ◌&&◌, ◌||◌, ◌↔◌, ◌⊎◌, ◌≢◌, eqb}
use Rattle.std.proofs.Math.Path.{refl, ap}
use Rattle.std.proofs.Common.{sym, ◌∙◌, eq-or-lt_of_le}
use Rattle.std.proofs.Math.Bool.{true, false, not, and-false}
use Rattle.std.proofs.lemmas.Bool.{false≢true}
use mathlib.Core.List.Memᴰ
use mathlib.Core.List.{List, [], ◌∷◌, ◌++◌, map}
use Rattle.std.proofs.Math.Logic.{⊎_elim, ⊎_map}
use native.Mathlib.Omega.{arith}
use Rattle.std.proofs.Math.Dec.{leb}
use Rattle.std.proofs.Math.ListN.{get_or}
use borrow.Author.Tests.{leb-true, leb-false, le-leb, not-true, ne_eqb}
use Rattle.std.specs.Prelude.{if◌then◌else◌}
use Rattle.notation.specs.ChoiceLaws.{both_true}
use Rattle.sizes.specs.Sizes.{registers, freed_registers}
use Rattle.bit_set.specs.BitSet.{has, union}
use Rattle.bit_set.specs.BitSetLaws.{has-union}
use Rattle.forms.specs.declared.GenContext.{GenContext}
use Rattle.forms.specs.declared.GenContext.TheVariants.{Head, Mid, Last}
use Rattle.variable_records.specs.declared.VarSafetyStatus.{VarSafetyStatus}
use Rattle.registers.specs.declared.RegType.TheVariants.{Temp as TempRegister}
use Rattle.variable_records.specs.declared.PermVarAllocation.TheVariants.{Done, Pending}
use Rattle.variable_records.specs.declared.VarAlloc.{VarAlloc}
use Rattle.variable_records.specs.declared.VarAlloc.TheVariants.{Temp, Perm}
use Rattle.variable_records.specs.declared.VariableRecord.{VariableRecord}
use Rattle.perm_free_list.specs.PermFreeList.{pending_slot}
use Rattle.temp_var_data.specs.TestLaws.{refuted, either_exactly}
use Rattle.temp_var_data.specs.Lists.{◌∈◌}
use Rattle.temp_var_data.specs.Uses.{register_of}
use Rattle.allocator_state.specs.declared.Counters.{Counters}
use Rattle.choice.specs.Choice.{in_use, is_free, first, registers_from, first_unused, least_free, least_outside}
use Rattle.choice.specs.ChoiceLaws.{least_end}
use Rattle.choice.specs.ChoiceRules.{Least, least_exactly}
use Rattle.allocation.specs.Allocation.{popped, searched}
use Rattle.record_marks.specs.RecordMarks.{stored_in_place, in_place}

-- ---- The least register

-- r is the least register from n on for which something holds
pub record LeastFrom (n : ℕ) (Holds : ℕ → Type 0) (r : ℕ) : Type 0 where
  pub from : n ≤ r
  pub register : r ≤ registers
  pub holds : Holds r
  pub none_before : (q : ℕ) → n ≤ q → q < r → Holds q → ⊥

no_register_lem : (r : ℕ) → None ≡ Some r → ⊥
no_register_lem r e = let z : ◌≡◌ {A = ℕ} 0 1 = cc in omega arith

-- where a test is passed exactly by what `Holds`, the first register from n on that passes is the least that does
module _ (test : ℕ → Bool) (Holds : ℕ → Type 0) (tells : (q : ℕ) → (test q ≡ true) ↔ Holds q) (n r : ℕ) where
  least_told : Least test n (suc registers) r ↔ LeastFrom n Holds r
  least_told = (
    λ l. record {
      from = l.from;
      register = omega (arith, l.below);
      holds = (tells r).0 l.passes;
      none_before = λ q a b h. false≢true (sym (l.others q a b) ∙ (tells q).1 h);
    },
    λ l. record {
      from = l.from;
      below = omega (arith, l.register);
      passes = (tells r).1 l.holds;
      others = λ q a b. refuted (test q) (λ h. l.none_before q a b ((tells q).0 h));
    },
  )

  pub first-is_least : (first test (registers_from n) ≡ Some r) ↔ LeastFrom n Holds r
  first-is_least =
      elim (leb n registers) as (λ t. leb n registers ≡ t → (first test (registers_from n) ≡ Some r) ↔ LeastFrom n Holds r) [
        | true ↦ λ t. (let inside = leb-true n registers t in
            let exactly = least_exactly test n r inside in
            (λ e. least_told.0 (exactly.0 e), λ l. exactly.1 (least_told.1 l)))
        | false ↦ λ t. (let past = leb-false n registers t in
            (λ e. absurd (no_register_lem r (sym (least_end test n past) ∙ e)), λ l. absurd (omega (arith, l.from, l.register))))
      ]
      refl

-- ---- A use set

module _ (c : Counters) where
  first_past :
      (passed rest : List ℕ) (code : ℕ) → ((other : ℕ) → other ∈ passed → in_use c (register_of other) ≡ true)
      → in_use c (register_of code) ≡ false
      → first (λ r. not (in_use c r)) (map register_of (passed ++ (code ∷ rest))) ≡ Some (register_of code)
  unfolding first
  first_past [] rest code taken unused = simp unused
  first_past (other ∷ passed) rest code taken unused =
      simp (taken other (Memᴰ.head refl)) (first_past passed rest code (λ o m. taken o (Memᴰ.tail m)) unused)

  pub unused_past :
      (use_set passed rest : List ℕ) (code : ℕ) → use_set ≡ passed ++ (code ∷ rest)
      → ((other : ℕ) → other ∈ passed → in_use c (register_of other) ≡ true) → in_use c (register_of code) ≡ false
      → first_unused c use_set ≡ Some (register_of code)
  unfolding first_unused
  unused_past use_set passed rest code e taken unused = rw e (first_past passed rest code taken unused)

  none_first :
      (use_set : List ℕ) → ((code : ℕ) → code ∈ use_set → in_use c (register_of code) ≡ true)
      → first (λ r. not (in_use c r)) (map register_of use_set) ≡ None
  unfolding first
  none_first [] taken = refl
  none_first (code ∷ use_set) taken =
      simp (taken code (Memᴰ.head refl)) (none_first use_set (λ o m. taken o (Memᴰ.tail m)))

  pub none_unused :
      (use_set : List ℕ) → ((code : ℕ) → code ∈ use_set → in_use c (register_of code) ≡ true) → first_unused c use_set ≡ None
  unfolding first_unused
  none_unused use_set taken = none_first use_set taken

  -- ---- Free: not in use, and not to be avoided

  pub free_exactly : (avoided r : ℕ) → (is_free c avoided r ≡ true) ↔ ((in_use c r ≡ false) × (has avoided r ≡ false))
  unfolding is_free
  free_exactly avoided r = (
    λ h. (let b = both_true (not (in_use c r)) (not (has avoided r)) h in (not-true _ b.0, not-true _ b.1)),
    λ b. simp (b.0, b.1),
  )

  neither : (a b : Bool) → ((a || b) ≡ false) ↔ ((a ≡ false) × (b ≡ false))
  neither true b = (λ h. absurd (false≢true (sym h)), λ s. absurd (false≢true (sym s.0)))
  neither false b = (λ h. (refl, h), λ s. s.1)

  pub least_free_exactly :
      (avoided r : ℕ)
      → (least_free c avoided ≡ Some r)
      ↔ LeastFrom c.temp_lb (λ q. (in_use c q ≡ false) × (has avoided q ≡ false)) r
  unfolding least_free
  least_free_exactly avoided r =
      first-is_least (is_free c avoided) (λ q. (in_use c q ≡ false) × (has avoided q ≡ false)) (free_exactly avoided) c.temp_lb r

  pub least_apart_exactly :
      (one other r : ℕ)
      → (least_free c (union one other) ≡ Some r)
      ↔ LeastFrom c.temp_lb (λ q. (in_use c q ≡ false) × (has one q ≡ false) × (has other q ≡ false)) r
  unfolding least_free
  least_apart_exactly one other r =
      first-is_least (is_free c (union one other)) (λ q. (in_use c q ≡ false) × (has one q ≡ false) × (has other q ≡ false))
      (λ q. (let free = free_exactly (union one other) q in
      let n = neither (has one q) (has other q) in
      let u = has-union one other q in
      (λ h. (let b = free.0 h in let o = n.0 (sym u ∙ b.1) in (b.0, o.0, o.1)), λ b. free.1 (b.0, u ∙ n.1 (b.1, b.2)))))
      c.temp_lb r

  -- ---- In use

  pub in_use_parts :
      (r : ℕ) → (in_use c r ≡ true) ↔ (((c.arg_c ≤ r) × (r ≤ c.arity)) ⊎ (has c.in_use r ≡ true))
  unfolding in_use
  in_use_parts r =
      let either = either_exactly (leb c.arg_c r && leb r c.arity) (has c.in_use r) in (
        λ h. ⊎_map (λ b. (let s = both_true (leb c.arg_c r) (leb r c.arity) b in (leb-true _ _ s.0, leb-true _ _ s.1))) (λ m. m) (either.0 h),
        λ s. either.1 (⊎_map (λ b. (let low = le-leb c.arg_c r b.0 in let high = le-leb r c.arity b.1 in simp (low, high))) (λ m. m) s),
      )

  -- ---- A term that is no variable

  pub least_outside_exactly :
      (r : ℕ) → (least_outside c ≡ Some r) ↔ LeastFrom c.temp_lb (λ q. has c.in_use q ≡ false) r
  unfolding least_outside
  least_outside_exactly r =
      first-is_least (λ q. not (has c.in_use q)) (λ q. has c.in_use q ≡ false)
      (λ q. (λ h. not-true (has c.in_use q) h, λ h. simp h))
      c.temp_lb r

  pub popped-free : (list : List ℕ) (left r : ℕ) → (popped c list left).chosen ≡ Some r → in_use c r ≡ false
  unfolding popped
  popped-free list zero r e = absurd (no_register_lem r e)
  popped-free list (suc left) r e =
      (elim (in_use c (get_or list (left % freed_registers) 0)) as
      (λ t. in_use c (get_or list (left % freed_registers) 0) ≡ t
      → (if t then popped c list left else record { left = left; chosen = Some (get_or list (left % freed_registers) 0) }).chosen ≡ Some r
      → in_use c r ≡ false) [
        | true ↦ λ t e. popped-free list left r e
        | false ↦ λ t e. (let same : get_or list (left % freed_registers) 0 ≡ r = cc in rw (← same) t)
      ])
      refl e

  -- nothing is given where all are in use
  pub popped-nothing :
      (list : List ℕ) (left : ℕ) → (popped c list left).chosen ≡ None
      → (i : ℕ) → i < left → in_use c (get_or list (i % freed_registers) 0) ≡ true
  unfolding popped
  popped-nothing list zero e i less = absurd (omega arith)
  popped-nothing list (suc left) e i less =
      (elim (in_use c (get_or list (left % freed_registers) 0)) as
      (λ t. in_use c (get_or list (left % freed_registers) 0) ≡ t
      → (if t then popped c list left else record { left = left; chosen = Some (get_or list (left % freed_registers) 0) }).chosen ≡ None
      → in_use c (get_or list (i % freed_registers) 0) ≡ true) [
        | true ↦ λ t e. ⊎_elim
            (λ same. ap (λ (n : ℕ). in_use c (get_or list (n % freed_registers) 0)) same ∙ t)
            (λ earlier. popped-nothing list left e i earlier)
            (eq-or-lt_of_le (let l : i ≤ left = omega arith in l))
        | false ↦ λ t e. absurd (no_register_lem _ (sym e))
      ])
      refl e

  pub searched-chosen : (found : Option ℕ) → (searched c found).chosen ≡ found
  searched-chosen (Some r) = refl
  searched-chosen None = refl

-- ---- A record

-- a record's register is not the argument's
pub stored_elsewhere :
    (at : GenContext) (safety : VarSafetyStatus) (to_perm r k : ℕ) → 1 ≤ k → stored_in_place (Temp at 0 safety to_perm) r k ≡ false
stored_elsewhere at safety to_perm r k positive =
    let e = ne_eqb 0 k (omega arith) in
    rw e (and-false (eqb r k))

-- outside the head the stored register decides
pub not-in_place :
    (context : GenContext) → context ≢ Head → (variable : VariableRecord) (r k : ℕ)
    → stored_in_place variable.allocation r k ≡ false → in_place variable context (TempRegister r) k ≡ false
not-in_place Head outside variable r k elsewhere = absurd (outside refl)
not-in_place (Mid chunk) outside variable r k elsewhere = elsewhere
not-in_place (Last chunk) outside variable r k elsewhere = elsewhere

-- a variable that is not Pending with a slot has none to give
pub pending_slot-zero :
    (allocation : VarAlloc) → ((slot : ℕ) → allocation ≡ Perm slot Pending → 0 < slot → ⊥) → pending_slot allocation ≡ None
pending_slot-zero (Temp context register safety to_perm) other = refl
pending_slot-zero (Perm slot (Done shallow deep)) other = refl
pending_slot-zero (Perm zero Pending) other = refl
pending_slot-zero (Perm (suc slot) Pending) other = absurd (other (suc slot) refl (omega arith))

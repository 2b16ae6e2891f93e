-- Rule 20.9 tried: what a call leaves, in laws of any run and on small sheets.
use Rattle.std.specs.Prelude.{ℕ, suc, ◌≡◌}
use Rattle.std.proofs.Math.Path.{refl}
use mathlib.Core.List.{List, [], ◌∷◌, head-eq_of_cons-eq, tail-eq_of_cons-eq}
use Rattle.std.proofs.Common.{arith, eq-eqb}
use Rattle.registers.specs.declared.RegType.{RegType}
use Rattle.registers.specs.declared.RegType.TheVariants.{Temp, Perm}
use Rattle.instructions.specs.declared.Instruction.TheVariants.{GetVariable, PutVariable, PutValue}
use Rattle.steps.specs.declared.Step.TheVariants.{Head, Goal, Call}
use Rattle.steps.specs.declared.CheckLine.{CheckLine}
use Rattle.steps.specs.declared.CheckLine.TheVariants.{Begins, Does}
use Rattle.machine.specs.Machine.{same_place, Machine, run_from, run}
use Rattle.machine.specs.Wanted.{wanted_from, wanted}
use Rattle.machine.specs.Right.{RightFor, Right}

-- ---- A call, whatever was run before it

module _ (number : ℕ → ℕ) (left_by : ℕ → ℕ → ℕ) (m : Machine) where
  -- each register has a number of its own, and of this call
  pub call_leaves : (r : ℕ) → (run_from number left_by m (Begins Call ∷ [])).contents (Temp r) ≡ left_by (suc m.steps) r
  unfolding run_from
  call_leaves r = refl

  -- each slot has what it held
  pub call_keeps : (slot : ℕ) → (run_from number left_by m (Begins Call ∷ [])).contents (Perm slot) ≡ m.contents (Perm slot)
  unfolding run_from
  call_keeps slot = refl

-- ---- Rule 24.12: a variable of a goal, wanted again after its call, from the place where it was put

abbrev wanted_again : RegType → List CheckLine
wanted_again place =
    Begins (Goal 1 0) ∷ Does (PutVariable place 1) ∷ Begins Call ∷ Begins (Goal 1 0) ∷ Does (PutValue place 1) ∷ Begins Call ∷ []

-- one choice among all: each call leaves 1 in each register, and every other number is 0
where_calls_leave_1 : {lines : List CheckLine} → Right lines → RightFor (λ place. 0) (λ step. 0) (λ call r. 1) lines
where_calls_leave_1 right = right _ _ _

-- no register keeps it
pub register-spoilt : (r : ℕ) → Right (wanted_again (Temp r)) → ⊥
unfolding run run_from wanted wanted_from same_place
register-spoilt r right =
    let e = head-eq_of_cons-eq (tail-eq_of_cons-eq ((where_calls_leave_1 right).arguments tt)) in
    omega arith

-- every slot does
pub slot_kept : (slot : ℕ) → Right (wanted_again (Perm slot))
unfolding run run_from wanted wanted_from same_place
slot_kept slot entry number left_by =
    record { equalities = (λ h. h, λ h. h); arguments = λ h. simp (eq-eqb slot slot refl); subterms = λ h. refl }

-- ---- A variable first seen in the head, in argument 1

-- its register is read before the call spoils it
pub argument_read : Right (Begins (Head 1 0) ∷ Begins (Goal 1 0) ∷ Begins Call ∷ [])
unfolding run run_from wanted wanted_from
argument_read entry number left_by = record { equalities = (λ h. h, λ h. h); arguments = λ h. refl; subterms = λ h. refl }

-- a call with no goal steps spoils it too
pub spoilt-without_goal : Right (Begins (Head 1 0) ∷ Begins Call ∷ Begins (Goal 1 0) ∷ Begins Call ∷ []) → ⊥
unfolding run run_from wanted wanted_from
spoilt-without_goal right =
    let e = head-eq_of_cons-eq ((where_calls_leave_1 right).arguments tt) in
    omega arith

-- what is wanted after the call is what the register held at entry, and a slot has it
pub entry_wanted :
    Right (Begins (Head 1 0) ∷ Does (GetVariable (Perm 1) 1) ∷ Begins Call ∷ Begins (Goal 1 0) ∷ Does (PutValue (Perm 1) 1) ∷ Begins Call ∷ [])
unfolding run run_from wanted wanted_from same_place
entry_wanted entry number left_by = record { equalities = (λ h. h, λ h. h); arguments = λ h. refl; subterms = λ h. refl }

-- What can be chosen for a check sheet has a name: of every choice for a sheet there are names' values that agree with it, and
-- of all names' values a choice.
use Rattle.std.specs.Prelude.{ℕ, zero, suc, ◌+◌, ◌*◌, ◌/◌, ◌%◌, ◌≡◌, refl, true}
use Rattle.std.proofs.Common.{sym, ap₂, ◌∙◌, arith}
use Rattle.sizes.specs.Sizes.{registers, is_register}
use Rattle.sizes.specs.SizesLaws.{register_exactly}
use Rattle.registers.specs.declared.RegType.{RegType}
use Rattle.registers.specs.declared.RegType.TheVariants.{Temp, Perm}
use Rattle.steps.specs.Steps.{place_fits}
use Rattle.machine.specs.Machine.{Contents}
use Rattle.symbolic.specs.Names.{place_name, step_name, call_name}

-- the values of names agree with a choice, in all that a sheet can name; the first step's number is 1
pub record Agrees (ρ : ℕ → ℕ) (entry : Contents) (number : ℕ → ℕ) (left_by : ℕ → ℕ → ℕ) : Type 0 where
  pub entries : (place : RegType) → place_fits place ≡ true → entry place ≡ ρ (place_name place)
  pub numbers : (step : ℕ) → number step ≡ ρ (step_name step)
  pub leaves : (earlier r : ℕ) → is_register r ≡ true → left_by (suc earlier) r ≡ ρ (call_name (suc earlier) r)

-- ---- Of names' values, a choice for a sheet

module _ (ρ : ℕ → ℕ) where
  abbrev pub entry_of : Contents
  entry_of place = ρ (place_name place)

  abbrev pub number_of : ℕ → ℕ
  number_of step = ρ (step_name step)

  abbrev pub left_by_of : ℕ → ℕ → ℕ
  left_by_of call r = ρ (call_name call r)

  pub values_agree : Agrees ρ entry_of number_of left_by_of
  values_agree = record { entries = λ place h. refl; numbers = λ step. refl; leaves = λ earlier r h. refl }

-- ---- Of a choice for a sheet, names' values

module _ (entry : Contents) (number : ℕ → ℕ) (left_by : ℕ → ℕ → ℕ) where
  -- what a register holds at entry, or after a call
  abbrev register_value : ℕ → ℕ → ℕ
  register_value zero r = entry (Temp r)
  register_value (suc earlier) r = left_by (suc earlier) r

  -- what a name names is known by the rest by 3
  abbrev value_at : ℕ → ℕ → ℕ
  value_at zero n = register_value (n / (registers + 1)) (n % (registers + 1))
  value_at (suc zero) n = entry (Perm n)
  value_at (suc (suc rest)) n = number n

  abbrev pub chosen : ℕ → ℕ
  chosen name = value_at (name % 3) (name / 3)

  told : (name rest n : ℕ) → name % 3 ≡ rest → name / 3 ≡ n → chosen name ≡ value_at rest n
  told name rest n e f = ap₂ value_at e f

  register-told : (n call r : ℕ) → n / (registers + 1) ≡ call → n % (registers + 1) ≡ r → value_at 0 n ≡ register_value call r
  register-told n call r e f = ap₂ register_value e f

  chosen_place : (place : RegType) → place_fits place ≡ true → entry place ≡ chosen (place_name place)
  chosen_place (Temp r) h =
      let fit = (register_exactly r).0 h in
      sym (told (3 * r) 0 r (omega arith) (omega arith) ∙ register-told r 0 r (omega arith) (omega arith))
  chosen_place (Perm r) h = sym (told (3 * r + 1) 1 r (omega arith) (omega arith))

  chosen-step : (step : ℕ) → number step ≡ chosen (step_name step)
  chosen-step step = sym (told (3 * step + 2) 2 step (omega arith) (omega arith))

  chosen_left : (earlier r : ℕ) → is_register r ≡ true → left_by (suc earlier) r ≡ chosen (call_name (suc earlier) r)
  chosen_left earlier r h =
      let fit = (register_exactly r).0 h in
      let n = (registers + 1) * suc earlier + r in
      sym (told (call_name (suc earlier) r) 0 n (omega arith) (omega arith) ∙ register-told n (suc earlier) r (omega arith) (omega arith))

  pub chosen_agrees : Agrees chosen entry number left_by
  chosen_agrees = record { entries = chosen_place; numbers = chosen-step; leaves = chosen_left }

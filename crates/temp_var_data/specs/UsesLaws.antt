-- Laws of use sets.
use Prim.Native.Nat.{ℕ, ◌+◌, ◌-◌, ◌*◌, ◌≤◌, ◌<◌, min}
use Rattle.std.specs.Prelude.{◌≡◌, refl, true, List, [], ◌↔◌, eqb, length, get_or, take, drop}
use mathlib.Core.List.Memᴰ
use native.Mathlib.Omega.{arith}
use Rattle.std.proofs.Math.ListN.{length-take, get_or-eq_default}
use Rattle.std.proofs.Common.{eqb-true, eq-eqb}
use Rattle.sizes.specs.Sizes.{uses, chunks}
use Rattle.temp_var_data.specs.Lists.{◌∈◌}
use Rattle.temp_var_data.specs.ListLaws.{any_exactly}
use Rattle.temp_var_data.specs.Uses.{mid_context, last_context, use_code, context_of, register_of, uses_of, uses_register, contains_use}

-- ---- What a use is made of can be read off its number

pub mid_context_lem : (chunk : ℕ) → chunk ≤ chunks → mid_context chunk ≡ 256 + chunk
mid_context_lem chunk h = omega arith

pub last_context_lem : (chunk : ℕ) → chunk ≤ chunks → last_context chunk ≡ 512 + chunk
last_context_lem chunk h = omega arith

pub context_of_use : (context register : ℕ) → context_of (use_code context register) ≡ context
context_of_use context register = omega arith

pub register_of_use : (context register : ℕ) → register < 256 → register_of (use_code context register) ≡ register
register_of_use context register h = omega arith

pub use_of_parts : (code : ℕ) → use_code (context_of code) (register_of code) ≡ code
use_of_parts code = omega arith

-- ---- The row of a variable

module _ (use_sets use_counts : List ℕ) (v : ℕ) where
  pub uses_le : length (uses_of use_sets use_counts v) ≤ uses
  unfolding uses_of
  uses_le = omega (arith, length-take (min (get_or use_counts v 0) uses) (drop (v * uses) use_sets))

  -- there is no such variable
  pub uses-none : length use_counts ≤ v → uses_of use_sets use_counts v ≡ []
  unfolding uses_of
  uses-none h = simp (get_or-eq_default use_counts 0 h)

  -- the part that the code cuts
  pub uses_part :
      (count : ℕ) → count ≡ min (get_or use_counts v 0) uses
      → take (v * uses + count - v * uses) (drop (v * uses) use_sets) ≡ uses_of use_sets use_counts v
  unfolding uses_of
  uses_part count e =
      let size : v * uses + count - v * uses ≡ min (get_or use_counts v 0) uses = omega arith in
      rw size

-- ---- As plain facts

pub uses_register_exactly :
    (use_set : List ℕ) (r : ℕ) → (uses_register use_set r ≡ true) ↔ ((code : ℕ) × (code ∈ use_set) × (r ≡ register_of code))
unfolding uses_register
uses_register_exactly use_set r =
    let some = any_exactly (λ code. eqb r (register_of code)) use_set in (
      λ h. (let s = some.0 h in (s.0, s.1, eqb-true _ _ s.2)),
      λ s. some.1 (s.0, s.1, eq-eqb _ _ s.2),
    )

pub contains_use_exactly : (use_set : List ℕ) (code : ℕ) → (contains_use use_set code ≡ true) ↔ (code ∈ use_set)
unfolding contains_use
contains_use_exactly use_set code =
    let some = any_exactly (λ entry. eqb code entry) use_set in (
      λ h. (let s = some.0 h in Memᴰ.cast (eqb-true _ _ s.2) s.1),
      λ s. some.1 (code, s, eq-eqb code code refl),
    )

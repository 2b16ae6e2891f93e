-- The choice of a register.
use Rattle.std.specs.Prelude.{Option, Some, None, ℕ, suc, ◌-◌, Bool, not, ◌&&◌, ◌||◌, List, [], ◌∷◌, map, leb}
use Rattle.std.specs.Prelude.{if◌then◌else◌}
use Rattle.notation.specs.Lists.{numbers_from}
use Rattle.sizes.specs.Sizes.{registers}
use Rattle.bit_set.specs.BitSet.{has}
use Rattle.allocator_state.specs.declared.Counters.{Counters}
use Rattle.temp_var_data.specs.Uses.{register_of}

-- rule 8.1: between `arg_c` and `arity`, both included, or in the set of registers in use
unfoldable pub in_use : Counters → ℕ → Bool
in_use c r = leb c.arg_c r && leb r c.arity || has c.in_use r

-- the first of some registers that passes a test
unfoldable pub first : (ℕ → Bool) → List ℕ → Option ℕ
first test [] = None
first test (r ∷ rs) = if test r then Some r else first test rs

-- the registers from one on, rising
unfoldable pub registers_from : ℕ → List ℕ
registers_from r = numbers_from r (suc registers - r)

-- rule 8.2: the first use whose register is not in use
unfoldable pub first_unused : Counters → List ℕ → Option ℕ
first_unused c use_set = first (λ r. not (in_use c r)) (map register_of use_set)

-- rule 8.3: the least register from `temp_lb` up that is neither in use nor to be avoided
unfoldable pub is_free : Counters → ℕ → ℕ → Bool
is_free c avoided r = not (in_use c r) && not (has avoided r)

unfoldable pub least_free : Counters → ℕ → Option ℕ
least_free c avoided = first (is_free c avoided) (registers_from c.temp_lb)

unfoldable pub otherwise : Option ℕ → Option ℕ → Option ℕ
otherwise (Some r) other = Some r
otherwise None other = other

-- rules 8.2 to 8.4: the choice for a variable, by its use set and what it avoids; no counter changes
unfoldable pub chosen : Counters → List ℕ → ℕ → Option ℕ
chosen c use_set avoided = otherwise (first_unused c use_set) (least_free c avoided)

-- rule 8.5: the search for another term, which looks at the set alone
unfoldable pub least_outside : Counters → Option ℕ
least_outside c = first (λ r. not (has c.in_use r)) (registers_from c.temp_lb)

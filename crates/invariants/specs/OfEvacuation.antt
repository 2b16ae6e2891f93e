-- Every record stays of its kind, in a good place, where an argument's register is emptied: the register chosen is good.
use Rattle.std.specs.Prelude.{Option, Some, None, ℕ, suc, ◌-◌, ◌*◌, min, Bool, eqb, leb, get_or, drop}
use Rattle.std.proofs.Math.Bool.{not}
use mathlib.Core.List.{List, [], ◌∷◌, map}
use Rattle.std.proofs.Common.{arith}
use Rattle.notation.specs.ChoiceLaws.{either}
use Rattle.sizes.specs.Sizes.{variables, uses, registers}
use Rattle.bit_set.specs.BitSet.{has, union}
use Rattle.code_deque.specs.declared.CodeDeque.{CodeDeque}
use Rattle.variable_records.specs.Rows.{is_temporary}
use Rattle.shallow_temp_mappings.specs.Mappings.{mapped_at}
use Rattle.register_sets.specs.RegisterSets.{set_at}
use Rattle.temp_var_data.specs.Uses.{register_of, uses_of, contains_use, use_code, last_context}
use Rattle.allocator_state.specs.declared.Counters.{Counters}
use Rattle.choice.specs.Choice.{in_use, is_free, first, registers_from, first_unused, least_free, least_outside, otherwise, chosen}
use Rattle.evacuation.specs.declared.Hint.{Hint}
use Rattle.evacuation.specs.declared.Hint.TheVariants.{Stays, Moves, NoRegister as Nowhere}
use Rattle.restricting_sets.specs.declared.VariableSets.{VariableSets}
use Rattle.evacuation.specs.Evacuation.{Evacuation, alloc_with_cr, alloc_with_ca, hint, hint_to, moved_to, evacuated_by, evacuated}
use Rattle.invariants.specs.Lists.{All, all_take, all_drop, all_map, all_numbers}
use Rattle.invariants.specs.Kept.{Wanted, Kept, kept_placed}

module _ (k : Wanted) where
  -- a register that is chosen is good
  abbrev pub GoodChoice : Option ℕ → Type 0
  GoodChoice (Some r) = k.Good r
  GoodChoice None = Unit {0}

  -- every use is of a good register
  abbrev pub GoodUses : List ℕ → Type 0
  GoodUses codes = All (λ code. k.Good (register_of code)) codes

  -- ---- The choice

  first_good : (test : ℕ → Bool) (rs : List ℕ) → All k.Good rs → GoodChoice (first test rs)
  unfolding first
  first_good test [] all = tt
  first_good test (r ∷ rs) all = either GoodChoice (test r) all.0 (first_good test rs all.1)

  -- the search ends at 63
  search_good : (test : ℕ → Bool) (r : ℕ) → GoodChoice (first test (registers_from r))
  unfolding registers_from
  search_good test r = first_good test _ (all_numbers k.Good registers r (suc registers - r) k.small (omega arith))

  otherwise_good : (a b : Option ℕ) → GoodChoice a → GoodChoice b → GoodChoice (otherwise a b)
  unfolding otherwise
  otherwise_good (Some r) b g h = g
  otherwise_good None b g h = h

  pub chosen_good : (c : Counters) (use_set : List ℕ) (avoided : ℕ) → GoodUses use_set → GoodChoice (chosen c use_set avoided)
  unfolding chosen first_unused least_free
  chosen_good c use_set avoided good =
      otherwise_good (first_unused c use_set) (least_free c avoided)
      (first_good (λ r. not (in_use c r)) (map register_of use_set) (all_map k.Good register_of use_set good))
      (search_good (is_free c avoided) c.temp_lb)

  pub outside_good : (c : Counters) → GoodChoice (least_outside c)
  unfolding least_outside
  outside_good c = search_good (λ r. not (has c.in_use r)) c.temp_lb

  uses_good : (use_sets use_counts : List ℕ) (v : ℕ) → GoodUses use_sets → GoodUses (uses_of use_sets use_counts v)
  unfolding uses_of
  uses_good use_sets use_counts v good =
      all_take _ (min (get_or use_counts v 0) uses) (drop (v * uses) use_sets) (all_drop _ (v * uses) use_sets good)

  module _ (s : VariableSets) (good : GoodUses s.use_sets) where
    pub cr_good : (c : Counters) (v : ℕ) → GoodChoice (alloc_with_cr c s v)
    cr_good c v =
        chosen_good c (uses_of s.use_sets s.use_counts v) (set_at s.no_use v) (uses_good s.use_sets s.use_counts v good)

    pub ca_good : (c : Counters) (v : ℕ) → GoodChoice (alloc_with_ca c s v)
    ca_good c v =
        chosen_good c (uses_of s.use_sets s.use_counts v) (union (set_at s.no_use v) (set_at s.conflict v))
        (uses_good s.use_sets s.use_counts v good)

    -- ---- The evacuation

    abbrev GoodHint : Hint → Type 0
    GoodHint Stays = Unit {0}
    GoodHint Nowhere = Unit {0}
    GoodHint (Moves v r) = k.Good r

    hint_to_good : (v : ℕ) (choice : Option ℕ) → GoodChoice choice → GoodHint (hint_to v choice)
    hint_to_good v (Some r) g = g
    hint_to_good v None g = tt

    hint_good : (c : Counters) (records mappings : List ℕ) (chunk : ℕ) → GoodHint (hint c records mappings s chunk)
    unfolding hint
    hint_good c records mappings chunk =
        let v = mapped_at mappings c.arg_c in
        either GoodHint (leb variables v) tt
        (either GoodHint (not (is_temporary records v)) tt
        (either GoodHint (contains_use (uses_of s.use_sets s.use_counts v) (use_code (last_context chunk) c.arg_c)) tt
        (hint_to_good v (alloc_with_ca c s v) (ca_good c v))))

    module _ (c : Counters) {records : List ℕ} (mappings : List ℕ) (code : CodeDeque) (every : Kept k records) where
      moved_keeps : (v r : ℕ) → k.Good r → Kept k (moved_to c records mappings code v r).records
      unfolding moved_to
      moved_keeps v r g = kept_placed k every v r g

      evacuated_by_keeps : (h : Hint) → GoodHint h → Kept k (evacuated_by h c records mappings code).records
      unfolding evacuated_by
      evacuated_by_keeps Stays g = every
      evacuated_by_keeps Nowhere g = every
      evacuated_by_keeps (Moves v r) g =
          either (λ (e : Evacuation). Kept k e.records) (eqb r c.arg_c) every (moved_keeps v r g)

      pub evacuated_keeps : (chunk : ℕ) → Kept k (evacuated c records mappings s chunk code).records
      unfolding evacuated
      evacuated_keeps chunk = evacuated_by_keeps (hint c records mappings s chunk) (hint_good c records mappings chunk)

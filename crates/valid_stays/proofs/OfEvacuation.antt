-- A valid state stays valid where an argument's register is emptied: the register chosen is one.
use Rattle.std.specs.Prelude.{Option, Some, None, ℕ, zero, suc, ◌-◌, ◌*◌, ◌≤◌, ◌<◌, min, ◌≡◌, refl, Bool, true, List, [], ◌∷◌, map, eqb, leb, get_or, take, drop}
use Rattle.std.proofs.Math.Bool.{not}
use Rattle.std.proofs.Common.{inl, inr, arith, get_or-drop, leb-false}
use Rattle.notation.specs.ChoiceLaws.{both_true, either, by_test}
use Rattle.notation.specs.Lists.{numbers_from}
use Rattle.sizes.specs.Sizes.{variables, uses, registers, is_register}
use Rattle.sizes.specs.SizesLaws.{register_exactly}
use Rattle.bit_set.specs.BitSet.{has, union}
use Rattle.code_deque.specs.declared.CodeDeque.{CodeDeque}
use Rattle.variable_records.specs.Rows.{is_temporary}
use Rattle.shallow_temp_mappings.specs.Mappings.{unmapped, mapped_at}
use Rattle.register_sets.specs.RegisterSets.{set_at}
use Rattle.temp_var_data.specs.Uses.{register_of, context_of, uses_of, contains_use, use_code, last_context}
use Rattle.allocator_state.specs.declared.Counters.{Counters}
use Rattle.choice.specs.Choice.{in_use, is_free, first, registers_from, first_unused, least_free, least_outside, otherwise, chosen}
use Rattle.evacuation.specs.declared.Hint.{Hint}
use Rattle.evacuation.specs.declared.Hint.TheVariants.{Stays, Moves, NoRegister as Nowhere}
use Rattle.restricting_sets.specs.declared.VariableSets.{VariableSets}
use Rattle.evacuation.specs.Evacuation.{Evacuation, alloc_with_cr, alloc_with_ca, hint, hint_to, moved_to, evacuated_by, evacuated}
use Rattle.events.specs.Events.{is_use, is_context}
use Rattle.invariants.specs.Lists.{All, all_map}
use Rattle.valid_stays.specs.Fits.{Kinds, Placed, Counts, Temporary, Valid, Uses}
use Rattle.valid_stays.proofs.TablesFit.{mapped_at_lem, named-temporary}
use Rattle.valid_stays.proofs.Steps.{placed_valid, mapped_valid, used_valid}

-- ---- The uses

pub use_placed : (code : ℕ) → is_use code ≡ true → Placed (register_of code)
unfolding is_use
use_placed code e =
    let r = (register_exactly (register_of code)).0 (both_true (is_register (register_of code)) (is_context (context_of code)) e).0 in
    record { some = r.0; last = r.1 }

all_taken : (P : ℕ → Type 0) (n : ℕ) (ns : List ℕ) → ((i : ℕ) → i < n → P (get_or ns i 0)) → All P (take n ns)
all_taken P zero ns h = tt
all_taken P (suc n) [] h = tt
all_taken P (suc n) (m ∷ ns) h = (h 0 (omega arith), all_taken P n ns (λ i l. h (suc i) (omega arith)))

pub uses_placed :
    (k : Kinds) {use_sets use_counts : List ℕ} → Uses k use_sets use_counts → (v : ℕ) → v < k.count
    → All (λ code. Placed (register_of code)) (uses_of use_sets use_counts v)
unfolding uses_of
uses_placed k {use_sets} {use_counts} fit v known =
    all_taken (λ code. Placed (register_of code)) (min (get_or use_counts v 0) uses) (drop (v * uses) use_sets)
    (λ i h. rw (get_or-drop (v * uses) use_sets i 0) (use_placed _ (fit.each v known i (omega arith))))

-- ---- The choice

-- a register that is chosen is one
abbrev pub PlacedChoice : Option ℕ → Type 0
PlacedChoice (Some r) = Placed r
PlacedChoice None = Unit {0}

first_placed : (test : ℕ → Bool) (rs : List ℕ) → All Placed rs → PlacedChoice (first test rs)
unfolding first
first_placed test [] all = tt
first_placed test (r ∷ rs) all = either PlacedChoice (test r) all.0 (first_placed test rs all.1)

numbers_placed : (r count : ℕ) → 1 ≤ r → count ≤ suc registers - r → All Placed (numbers_from r count)
unfolding numbers_from
numbers_placed r zero some fits = tt
numbers_placed r (suc count) some fits =
    (record { some = some; last = omega arith }, numbers_placed (suc r) count (omega arith) (omega arith))

search_placed : (test : ℕ → Bool) (r : ℕ) → 1 ≤ r → PlacedChoice (first test (registers_from r))
unfolding registers_from
search_placed test r some = first_placed test _ (numbers_placed r (suc registers - r) some (omega arith))

otherwise_placed : (a b : Option ℕ) → PlacedChoice a → PlacedChoice b → PlacedChoice (otherwise a b)
unfolding otherwise
otherwise_placed (Some r) b g h = g
otherwise_placed None b g h = h

module _ (k : Kinds) where
  chosen_placed :
      (c : Counters) → Counts k c → (use_set : List ℕ) (avoided : ℕ) → All (λ code. Placed (register_of code)) use_set
      → PlacedChoice (chosen c use_set avoided)
  unfolding chosen first_unused least_free
  chosen_placed c n use_set avoided good =
      otherwise_placed (first_unused c use_set) (least_free c avoided)
      (first_placed (λ r. not (in_use c r)) (map register_of use_set) (all_map Placed register_of use_set good))
      (search_placed (is_free c avoided) c.temp_lb n.search_start.some)

  pub outside_placed : (c : Counters) → Counts k c → PlacedChoice (least_outside c)
  unfolding least_outside
  outside_placed c n = search_placed (λ r. not (has c.in_use r)) c.temp_lb n.search_start.some

-- the tables that an evacuation leaves alone
module _ (k : Kinds) (queue freed rows branch_sets : List ℕ) where
  abbrev pub EvacuationValid : Evacuation → Type 0
  EvacuationValid e = Valid k e.reached.counters e.records e.mappings queue freed rows branch_sets

module _ (k : Kinds) (s : VariableSets) (fit : Uses k s.use_sets s.use_counts) where
  module _ (c : Counters) (n : Counts k c) (v : ℕ) (known : v < k.count) where
    pub cr_placed : PlacedChoice (alloc_with_cr c s v)
    cr_placed = chosen_placed k c n (uses_of s.use_sets s.use_counts v) (set_at s.no_use v) (uses_placed k fit v known)

    pub ca_placed : PlacedChoice (alloc_with_ca c s v)
    ca_placed =
        chosen_placed k c n (uses_of s.use_sets s.use_counts v) (union (set_at s.no_use v) (set_at s.conflict v))
        (uses_placed k fit v known)

  -- ---- The evacuation

  abbrev HintFits : Hint → Type 0
  HintFits Stays = Unit {0}
  HintFits Nowhere = Unit {0}
  HintFits (Moves v r) = Temporary k v × Placed r

  hint_to-fits : (v : ℕ) (choice : Option ℕ) → Temporary k v → PlacedChoice choice → HintFits (hint_to v choice)
  hint_to-fits v (Some r) temporary g = (temporary, g)
  hint_to-fits v None temporary g = tt

  module _ {c : Counters} {records mappings queue freed rows branch_sets : List ℕ}
      (h : Valid k c records mappings queue freed rows branch_sets) where
    hint-fits : (chunk : ℕ) → HintFits (hint c records mappings s chunk)
    unfolding hint
    hint-fits chunk =
        let v = mapped_at mappings c.arg_c in
        by_test HintFits (leb variables v) (λ e. tt)
        (λ e. (let temporary = named-temporary k v (mapped_at_lem k h.mapped c.arg_c) (leb-false variables v e) in
        either HintFits (not (is_temporary records v)) tt
        (either HintFits (contains_use (uses_of s.use_sets s.use_counts v) (use_code (last_context chunk) c.arg_c)) tt
        (hint_to-fits v (alloc_with_ca c s v) temporary
        (ca_placed c h.counted v temporary.0)))))

    moved_valid :
        (code : CodeDeque) (v r : ℕ) → Temporary k v → Placed r
        → EvacuationValid k queue freed rows branch_sets (moved_to c records mappings code v r)
    unfolding moved_to
    moved_valid code v r temporary placed =
        used_valid k
        (mapped_valid k
        (mapped_valid k (placed_valid k h v temporary.0 r placed.last) c.arg_c unmapped (inl refl))
        r v (inr temporary))
        r placed.some

    evacuated_by_valid :
        (t : Hint) → HintFits t → (code : CodeDeque)
        → EvacuationValid k queue freed rows branch_sets (evacuated_by t c records mappings code)
    unfolding evacuated_by
    evacuated_by_valid Stays g code = h
    evacuated_by_valid Nowhere g code = h
    evacuated_by_valid (Moves v r) g code =
        either (EvacuationValid k queue freed rows branch_sets) (eqb r c.arg_c) h (moved_valid code v r g.0 g.1)

    pub evacuated_valid :
        (chunk : ℕ) (code : CodeDeque)
        → EvacuationValid k queue freed rows branch_sets (evacuated c records mappings s chunk code)
    unfolding evacuated
    evacuated_valid chunk code = evacuated_by_valid (hint c records mappings s chunk) (hint-fits chunk) code

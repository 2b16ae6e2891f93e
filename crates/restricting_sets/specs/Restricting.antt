-- The restricting sets of all temporaries, as `sets` makes them: rules 7.2 and 7.3.
use Rattle.std.specs.Prelude.{ℕ, zero, suc, ◌≡◌, Bool, not, ◌&&◌, ◌||◌, eqb, ltb, get_or, Option, Some, None, is_some}
use Rattle.std.specs.Bool.{then_some}
use mathlib.Core.List.{List, [], ◌∷◌, ◌++◌, foldl}
use Rattle.std.specs.Prelude.{if◌then◌else◌}
use Rattle.sizes.specs.Sizes.{variables, is_chunk}
use Rattle.bit_set.specs.BitSet.{has}
use Rattle.bit_set.specs.Collected.{collected}
use Rattle.register_sets.specs.RegisterSets.{set_at, set_put}
use Rattle.temp_var_data.specs.Lists.{any}
use Rattle.temp_var_data.specs.Uses.{last_context, use_code, uses_of, uses_register, contains_use, conflict_of}
use Rattle.restricting_sets.specs.declared.VariableSets.{VariableSets}

abbrev pub sets : List ℕ → List ℕ → List ℕ → List ℕ → VariableSets
sets use_sets use_counts no_use conflict =
    record { use_sets = use_sets; use_counts = use_counts; no_use = no_use; conflict = conflict }

-- the numbers below n, rising
unfoldable pub below : ℕ → List ℕ
below zero = []
below (suc n) = below n ++ (n ∷ [])

-- a table of sets made anew, each from what stood there and its variable's number
unfoldable pub sets_anew : (ℕ → ℕ → ℕ) → List ℕ → List ℕ
sets_anew f sets = foldl (λ table v. set_put table v (f (set_at sets v) v)) sets (below variables)

-- a number past the last chunk is none
abbrev pub known_chunk : Option ℕ → Option ℕ
known_chunk None = None
known_chunk (Some chunk) = then_some (is_chunk chunk) chunk

-- the chunk of v, where it is a temporary
unfoldable pub chunk_of : List (Option ℕ) → ℕ → Option ℕ
chunk_of chunks v = known_chunk (get_or chunks v None)

unfoldable pub is_temporary : List (Option ℕ) → ℕ → Bool
is_temporary chunks v = is_some (chunk_of chunks v)

-- u comes before v, or v has no use of r
unfoldable pub before_or_free : List ℕ → List ℕ → ℕ → ℕ → ℕ → Bool
before_or_free use_sets use_counts u v r = ltb u v || not (uses_register (uses_of use_sets use_counts v) r)

module _ (use_sets use_counts : List ℕ) (chunks : List (Option ℕ)) where
  -- u is another temporary, has a use of r in the last goal of v's chunk, and one of these two holds
  unfoldable pub restricts : ℕ → ℕ → ℕ → ℕ → Bool
  restricts chunk u v r =
      is_temporary chunks u && not (eqb u v)
      && contains_use (uses_of use_sets use_counts u) (use_code (last_context chunk) r)
      && before_or_free use_sets use_counts u v r

  -- rule 7.2: a temporary's no_use_lem set keeps what it has, and gets each r at which some u restricts v
  abbrev pub no_use_in : Option ℕ → ℕ → ℕ → ℕ
  no_use_in None no_use_set v = no_use_set
  no_use_in (Some chunk) no_use_set v = collected (λ r. has no_use_set r || any (λ u. restricts chunk u v r) (below variables))

  unfoldable pub no_use_of : ℕ → ℕ → ℕ
  no_use_of no_use_set v = no_use_in (chunk_of chunks v) no_use_set v

  -- rule 7.3: a temporary's conflict set is made anew
  unfoldable pub conflict_at : ℕ → ℕ → ℕ
  conflict_at conflict_set v = if is_temporary chunks v then conflict_of (uses_of use_sets use_counts v) else conflict_set

-- the sets of all variables, made anew from the uses, which stay
pub record Populated (chunks : List (Option ℕ)) (before after : VariableSets) : Type 0 where
  pub use_sets : after.use_sets ≡ before.use_sets
  pub use_counts : after.use_counts ≡ before.use_counts
  pub no_uses : after.no_use ≡ sets_anew (no_use_of before.use_sets before.use_counts chunks) before.no_use
  pub conflicts : after.conflict ≡ sets_anew (conflict_at before.use_sets before.use_counts chunks) before.conflict

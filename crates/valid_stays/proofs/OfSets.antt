-- `sets` leaves no_use_lem and conflict sets without 0.
use Rattle.std.specs.Prelude.{ℕ, ◌≤◌, ◌<◌, ◌≡◌, refl, true, false, List, [], ◌∷◌, map, leb, Option, Some, None, is_some}
use Rattle.std.proofs.Common.{sym, ap, subst, ◌∙◌, ⊎_elim, arith, leb-true, leb-false, le-leb}
use Rattle.std.proofs.lemmas.Bool.{false≢true}
use mathlib.Core.List.Memᴰ
use Rattle.sizes.specs.Sizes.{variables}
use Rattle.bit_set.specs.BitSet.{has}
use Rattle.register_sets.specs.RegisterSets.{set_at}
use Rattle.temp_var_data.specs.Lists.{◌∈◌}
use Rattle.temp_var_data.specs.TestLaws.{refuted}
use Rattle.temp_var_data.specs.Uses.{register_of, use_code, last_context, uses_of}
use Rattle.temp_var_data.proofs.ConflictLaws.{conflict_exactly}
use Rattle.restricting_sets.specs.declared.VariableSets.{VariableSets}
use Rattle.restricting_sets.specs.Restricting.{below, sets_anew, known_chunk, chunk_of, is_temporary as has_chunk, no_use_of, conflict_at}
use Rattle.restricting_sets.specs.BelowLaws.{map_at}
use Rattle.restricting_sets.specs.AnewLaws.{anew_length}
use Rattle.restricting_sets.specs.RestrictingLaws.{no_use_exactly, conflict_anew, no_use_stays, conflict_stays}
use Rattle.allocator_state.specs.declared.Counters.{Counters}
use Rattle.clause_records.specs.ClauseRecords.{chunk_at, chunks_of, populated}
use Rattle.invariants.specs.Lists.{All}
use Rattle.valid_stays.specs.Fits.{Kinds, Placed, Counts, Uses, Restricted}
use Rattle.valid_stays.proofs.OfEvacuation.{uses_placed}

all_member : (P : ℕ → Type 0) (ns : List ℕ) (n : ℕ) → All P ns → n ∈ ns → P n
all_member P [] n all m = absurd (Memᴰ.not-nil m)
all_member P (m ∷ ns) n all member =
    ⊎_elim (λ same. subst P (sym same) all.0) (all_member P ns n all.1) (Memᴰ.cases_cons member)

-- who has a chunk has a record
chunk_past : (c : Counters) (records : List ℕ) (v : ℕ) → v < variables → c.records ≤ v → chunk_of (chunks_of c records) v ≡ None
unfolding chunk_of chunks_of chunk_at
chunk_past c records v inside past =
    let none : chunk_at c records v ≡ None = simp (le-leb _ _ past) in
    ap known_chunk (map_at (chunk_at c records) variables v None inside ∙ none)

chunk_known : (c : Counters) (records : List ℕ) (v : ℕ) → v < variables → has_chunk (chunks_of c records) v ≡ true → v < c.records
unfolding has_chunk
chunk_known c records v inside e =
    elim (leb c.records v) as (λ t. leb c.records v ≡ t → v < c.records) [
      | true ↦ λ past. absurd (false≢true (ap is_some (sym (chunk_past c records v inside (leb-true _ _ past))) ∙ e))
      | false ↦ λ before. leb-false _ _ before
    ]
    refl

module _ (k : Kinds) (c : Counters) (n : Counts k c) (records : List ℕ) (s : VariableSets) (fit : Uses k s.use_sets s.use_counts) where
  -- no use is of register 0
  no_use_of-none : (u context : ℕ) → u < k.count → use_code context 0 ∈ uses_of s.use_sets s.use_counts u → ⊥
  no_use_of-none u context known member =
      let placed = all_member (λ code. Placed (register_of code)) (uses_of s.use_sets s.use_counts u) (use_code context 0) (uses_placed k fit u known) member in
      omega (arith, placed.some)

  module _ (was : Restricted k s.no_use s.conflict) (v : ℕ) (known : v < k.count) where
    abbrev chunks : List (Option ℕ)
    chunks = chunks_of c records

    no_use_anew : has (set_at (sets_anew (no_use_of s.use_sets s.use_counts chunks) s.no_use) v) 0 ≡ false
    unfolding has_chunk
    no_use_anew =
        let inside : v < variables = omega (arith, k.small) in
        elim (chunk_of chunks v) as
        (λ o. chunk_of chunks v ≡ o → has (set_at (sets_anew (no_use_of s.use_sets s.use_counts chunks) s.no_use) v) 0 ≡ false) [
          | Some chunk ↦ λ e.
              refuted _ (λ member. ⊎_elim (λ there. false≢true (sym (was.no_used v known) ∙ there))
              (λ u. no_use_of-none u.0 (last_context chunk)
              (omega (arith, n.records, chunk_known c records u.0 u.1 u.2.0)) u.2.2)
              ((no_use_exactly s.use_sets s.use_counts chunks v 0 s.no_use was.no_use_full inside chunk e (omega arith)).0 member))
          | None ↦ λ e. ap (λ (set : ℕ). has set 0) (no_use_stays s.use_sets s.use_counts chunks v inside s.no_use was.no_use_full (ap is_some e)) ∙ was.no_used v known
        ]
        refl

    conflict_of-none : has (set_at (sets_anew (conflict_at s.use_sets s.use_counts chunks) s.conflict) v) 0 ≡ false
    conflict_of-none =
        let inside : v < variables = omega (arith, k.small) in
        elim (has_chunk chunks v) as
        (λ t. has_chunk chunks v ≡ t → has (set_at (sets_anew (conflict_at s.use_sets s.use_counts chunks) s.conflict) v) 0 ≡ false) [
          | true ↦ λ e.
              ap (λ (set : ℕ). has set 0) (conflict_anew s.use_sets s.use_counts chunks v inside s.conflict was.conflict_full e)
              ∙ refuted _ (λ member. (let m = (conflict_exactly (uses_of s.use_sets s.use_counts v) 0 (omega arith)).0 member in omega (arith, m.0)))
          | false ↦ λ e. ap (λ (set : ℕ). has set 0) (conflict_stays s.use_sets s.use_counts chunks v inside s.conflict was.conflict_full e) ∙ was.conflicts v known
        ]
        refl

  pub populated_restricted :
      Restricted k s.no_use s.conflict → Restricted k (populated c records s).no_use (populated c records s).conflict
  unfolding populated
  populated_restricted was =
      record {
        no_use_full = anew_length _ s.no_use ∙ was.no_use_full;
        conflict_full = anew_length _ s.conflict ∙ was.conflict_full;
        no_used = no_use_anew was;
        conflicts = conflict_of-none was;
      }

  -- the uses stay
  pub populated_uses : Uses k (populated c records s).use_sets (populated c records s).use_counts
  unfolding populated
  populated_uses = fit

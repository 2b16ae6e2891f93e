-- Laws of a clause's records: a temporary in its two steps, and what `sets` makes of each set, as plain facts.
use Rattle.std.specs.Prelude.{ℕ, ◌≤◌, ◌<◌, ◌≡◌, ◌↔◌, ◌⊎◌, length, Option, Some, None, is_some}
use Rattle.std.specs.Option.{unwrap_or}
use Rattle.std.proofs.lemmas.Bool.{false≢true}
use Rattle.std.proofs.Math.Path.{refl, ap, ap₂}
use Rattle.std.proofs.Common.{sym, ◌∙◌, arith}
use Rattle.std.proofs.Math.Bool.{true, false}
use mathlib.Core.List.{List}
use Rattle.std.proofs.Math.Logic.{⊎_map}
use Rattle.std.proofs.Math.Dec.{leb}
use borrow.Author.Tests.{lt-leb, le-leb, leb-true, leb-false}
use Rattle.sizes.specs.Sizes.{variables, registers, chunks as last_chunk}
use Rattle.bit_set.specs.BitSet.{has}
use Rattle.forms.specs.declared.GenContext.{GenContext}
use Rattle.variable_records.specs.declared.VarAlloc.{VarAlloc}
use Rattle.variable_records.specs.declared.VarAlloc.TheVariants.{Temp, Perm}
use Rattle.variable_records.specs.Rows.{record_at, temporary, is_temporary}
use Rattle.register_sets.specs.RegisterSets.{set_at}
use Rattle.temp_var_data.specs.Lists.{◌∈◌}
use Rattle.temp_var_data.specs.Uses.{last_context, use_code, register_of, uses_of, UseAdded}
use Rattle.temp_var_data.proofs.ConflictLaws.{conflict_exactly}
use Rattle.restricting_sets.specs.declared.VariableSets.{VariableSets}
use Rattle.restricting_sets.specs.Restricting.{sets, known_chunk, chunk_of, is_temporary as has_chunk, Populated}
use Rattle.restricting_sets.specs.BelowLaws.{map_at}
use Rattle.restricting_sets.specs.RestrictingLaws.{no_use_exactly, conflict_anew}
use Rattle.allocator_state.specs.declared.Counters.{Counters}
use Rattle.clause_records.specs.ClauseRecords.{Rows, rows, rows_put, fresh_temp, counted, recording, with_use, uses_given, with_uses, temp_recorded}
use Rattle.clause_records.specs.ClauseRecords.{chunk_of_alloc, chunk_at, chunks_of, populated}

-- ---- A temporary: its rows, then its uses

module _ (c : Counters) (t : Rows) (context : GenContext) (occurrences : ℕ) (codes : List ℕ) where
  temp_room :
      c.records < variables
      → temp_recorded c t context occurrences codes
      ≡ recording (with_uses (rows_put t c.records (fresh_temp context occurrences)) c.records codes) (counted c)
  unfolding temp_recorded
  temp_room room = simp (lt-leb _ _ room)

  pub temp_made :
      {made : Rows} {given : VariableSets} → c.records < variables
      → made ≡ rows_put t c.records (fresh_temp context occurrences)
      → given ≡ uses_given made.sets c.records codes
      → recording (rows made.records given) (counted c) ≡ temp_recorded c t context occurrences codes
  temp_made {made} {given} room put uses =
      ap (λ (u : VariableSets). recording (rows made.records u) (counted c)) uses
      ∙ ap (λ (m : Rows). recording (with_uses m c.records codes) (counted c)) put
      ∙ sym (temp_room room)

pub use_added :
    (s : VariableSets) {sets_after counts_after : List ℕ} {v code : ℕ} → UseAdded s.use_sets s.use_counts v code sets_after counts_after
    → sets sets_after counts_after s.no_use s.conflict ≡ with_use v s code
use_added s added = ap₂ (λ use_sets use_counts. sets use_sets use_counts s.no_use s.conflict) added.sets added.counts

-- ---- `sets`

module _ (c : Counters) (records : List ℕ) where
  pub sets-populated :
      {chunks : List (Option ℕ)} {before after : VariableSets} → chunks ≡ chunks_of c records → Populated chunks before after
      → after ≡ populated c records before
  unfolding populated
  sets-populated {chunks} {before} {after} e p =
      let made : sets after.use_sets after.use_counts after.no_use after.conflict ≡ populated c records before =
      simp (p.use_sets, p.use_counts, p.no_uses, p.conflicts, e) in
      made

-- ---- The chunks of the records

-- the number of a temporary's chunk; a permanent variable, which has none, is not asked
abbrev pub chunk_number : VarAlloc → ℕ
chunk_number allocation = unwrap_or (chunk_of_alloc allocation) 0

temporary_chunk : (allocation : VarAlloc) → is_some (known_chunk (chunk_of_alloc allocation)) ≡ true → temporary allocation ≡ true
unfolding temporary
temporary_chunk (Temp context register safety to_perm) some = refl
temporary_chunk (Perm slot allocation) none = absurd (false≢true none)

chunk_temporary_lem :
    (allocation : VarAlloc) → temporary allocation ≡ true → chunk_number allocation ≤ last_chunk
    → known_chunk (chunk_of_alloc allocation) ≡ Some (chunk_number allocation)
unfolding temporary
chunk_temporary_lem (Temp context register safety to_perm) t inside = simp (le-leb _ _ inside)
chunk_temporary_lem (Perm slot allocation) none inside = absurd (false≢true none)

module _ (c : Counters) (records : List ℕ) where
  -- the chunk of a temporary's context
  abbrev pub chunk_in : ℕ → ℕ
  chunk_in v = chunk_number (record_at records v).allocation

  -- a temporary that has a record
  abbrev pub Temporary : ℕ → Type 0
  Temporary v = (v < c.records) × (is_temporary records v ≡ true)

  chunk_none : (v : ℕ) → c.records ≤ v → chunk_at c records v ≡ None
  unfolding chunk_at
  chunk_none v past = simp (le-leb _ _ past)

  chunk_some : (v : ℕ) → v < c.records → chunk_at c records v ≡ chunk_of_alloc (record_at records v).allocation
  unfolding chunk_at
  chunk_some v known = simp (lt-leb _ _ known)

  chunk_of_lem : (v : ℕ) → v < variables → chunk_of (chunks_of c records) v ≡ known_chunk (chunk_at c records v)
  unfolding chunk_of chunks_of
  chunk_of_lem v inside =
      ap known_chunk (map_at (chunk_at c records) variables v None inside)

  chunk_temporary : (v : ℕ) → v < variables → has_chunk (chunks_of c records) v ≡ true → Temporary v
  unfolding has_chunk is_temporary
  chunk_temporary v inside e =
      let some : is_some (known_chunk (chunk_at c records v)) ≡ true = ap is_some (sym (chunk_of_lem v inside)) ∙ e in
      elim (leb c.records v) as (λ t. leb c.records v ≡ t → Temporary v) [
        | true ↦ λ past. absurd (false≢true (ap (λ (o : Option ℕ). is_some (known_chunk o)) (sym (chunk_none v (leb-true _ _ past))) ∙ some))
        | false ↦ λ before.
            (let known : v < c.records = leb-false _ _ before in
            (known, temporary_chunk (record_at records v).allocation (ap (λ (o : Option ℕ). is_some (known_chunk o)) (sym (chunk_some v known)) ∙ some)))
      ]
      refl

  -- the numbers are inside their sizes: of the records, and of the chunk of each temporary
  module _ (held : c.records ≤ variables) (sized : (v : ℕ) → Temporary v → chunk_in v ≤ last_chunk) where
    chunk_here : (v : ℕ) → Temporary v → chunk_of (chunks_of c records) v ≡ Some (chunk_in v)
    unfolding is_temporary
    chunk_here v t =
        chunk_of_lem v (omega (arith, t.0))
        ∙ ap known_chunk (chunk_some v t.0)
        ∙ chunk_temporary_lem (record_at records v).allocation t.1 (sized v t)

    temporary-has : (v : ℕ) → Temporary v → has_chunk (chunks_of c records) v ≡ true
    unfolding has_chunk
    temporary-has v t = ap is_some (chunk_here v t)

    module _ (s : VariableSets) (v r : ℕ) (t : Temporary v) (h : r ≤ registers) where
      -- u is another temporary, has a use of r in the last goal of v's chunk, and comes before v, or v has no use of r
      abbrev pub RestrictsAt : ℕ → Type 0
      RestrictsAt u =
          Temporary u × (u ≡ v → ⊥)
          × (use_code (last_context (chunk_in v)) r ∈ uses_of s.use_sets s.use_counts u)
          × ((u < v) ⊎ ((code : ℕ) → code ∈ uses_of s.use_sets s.use_counts v → r ≡ register_of code → ⊥))

      -- rule 7.2: v's no_use_lem set has r exactly if it had r before, or there is such a u
      pub no_use_of_records :
          length s.no_use ≡ variables
          → (has (set_at (populated c records s).no_use v) r ≡ true)
          ↔ ((has (set_at s.no_use v) r ≡ true) ⊎ ((u : ℕ) × RestrictsAt u))
      unfolding populated
      no_use_of_records full =
          let exactly = no_use_exactly s.use_sets s.use_counts (chunks_of c records) v r s.no_use full (omega (arith, t.0, held)) (chunk_in v) (chunk_here v t) h in (
            λ e. ⊎_map (λ was. was) (λ u. (u.0, (chunk_temporary u.0 u.1 u.2.0, u.2.1, u.2.2, u.2.3))) (exactly.0 e),
            λ e. exactly.1 (⊎_map (λ was. was) (λ u. (u.0, (omega (arith, u.1.0.0, held)), (temporary-has u.0 u.1.0, u.1.1, u.1.2, u.1.3))) e),
          )

      -- rule 7.3: v's conflict set has r exactly if r is 1 or more, below the number of entries of its use set, and none has it
      pub conflict_of_records :
          length s.conflict ≡ variables
          → (has (set_at (populated c records s).conflict v) r ≡ true)
          ↔ ((1 ≤ r) × (r < length (uses_of s.use_sets s.use_counts v)) × ((code : ℕ) → code ∈ uses_of s.use_sets s.use_counts v → r ≡ register_of code → ⊥))
      unfolding populated
      conflict_of_records full =
          rw (conflict_anew s.use_sets s.use_counts (chunks_of c records) v (omega (arith, t.0, held)) s.conflict full (temporary-has v t))
          (conflict_exactly (uses_of s.use_sets s.use_counts v) r h)

-- A valid state stays valid where a record joins it.
use Rattle.std.specs.Prelude.{ℕ, ◌+◌, ◌*◌, ◌%◌, ◌≤◌, ◌<◌, ◌≡◌, Bool, ◌&&◌, List, eqb, leb, length}
use Rattle.std.proofs.Math.Path.{refl, ap}
use Rattle.std.proofs.Common.{sym, subst, ◌∙◌, inl, inr, ⊎_elim, arith, length-set, get_or-set_same, get_or-set_other}
use Rattle.std.proofs.Math.Bool.{true, false}
use Rattle.std.proofs.Math.Dec.{ltb}
use Rattle.std.proofs.Math.ListN.{get_or, set}
use borrow.Author.Tests.{eqb-true, eqb-false, ltb-true, lt-ltb}
use Rattle.std.specs.Prelude.{if◌then◌else◌}
use Rattle.notation.specs.ChoiceLaws.{both_true}
use Rattle.sizes.specs.Sizes.{variables, uses, is_argument, is_chunk}
use Rattle.bit_set.specs.BitSet.{has, empty_set}
use Rattle.bit_set.specs.BitSetLaws.{has-empty}
use Rattle.variable_records.specs.declared.VariableRecord.{VariableRecord}
use Rattle.variable_records.specs.declared.Row.{Row}
use Rattle.variable_records.specs.Rows.{unset, row_at, record_put, temporary, is_temporary}
use Rattle.variable_records.specs.TableLaws.{record_put-same, record_put-other, record_put-length}
use Rattle.register_sets.specs.RegisterSets.{set_at, set_put}
use Rattle.register_sets.specs.RegisterSetsLaws.{set_put-same, set_put-other, set_put-length}
use Rattle.temp_var_data.specs.Uses.{takes_use, use_sets_with, use_counts_with}
use Rattle.allocator_state.specs.declared.Counters.{Counters}
use Rattle.allocator_state.specs.Counters.{with_records}
use Rattle.events.specs.Events.{is_use}
use Rattle.restricting_sets.specs.declared.VariableSets.{VariableSets}
use Rattle.clause_records.specs.ClauseRecords.{with_use, uses_given}
use Rattle.valid_states.specs.ValidStates.{names_none_or, row_fits}
use Rattle.invariants.specs.Lists.{All, each_keeps}
use Rattle.valid_stays.specs.Tests.{one_of, left_so, right_so}
use Rattle.valid_stays.specs.Fits.{Kinds, RecordFits, Records, Named, Mappings, Queue, Permanent, Branches, Valid, Uses, Restricted}
use Rattle.valid_stays.proofs.RecordsFit.{row_put-same, row_put-other, row_of_record}

-- ---- More variables, those there were of their kinds

pub record Grows (k after : Kinds) : Type 0 where
  pub more : k.count ≤ after.count
  pub same : (w : ℕ) → w < k.count → after.temporary w ≡ k.temporary w

under : (a b d : Bool) → (b ≡ true → d ≡ true) → (a && b) ≡ true → (a && d) ≡ true
under true b d f e = f e
under false b d f e = e

names_more : (n m v : ℕ) → n ≤ m → names_none_or n v ≡ true → names_none_or m v ≡ true
names_more n m v more e =
    ⊎_elim (λ none. left_so (eqb v unset) (ltb v m) none)
    (λ known. right_so (eqb v unset) (ltb v m) (lt-ltb v m (omega (arith, ltb-true v n known))))
    (one_of (eqb v unset) (ltb v n) e)

row_more : (n m : ℕ) (row : Row) → n ≤ m → row_fits n row ≡ true → row_fits m row ≡ true
row_more n m row more =
    under (leb row.kind 1) _ _
    (under (leb row.context 2) _ _
    (under (is_chunk row.chunk) _ _
    (under (is_argument row.place) _ _
    (under (leb row.pending 1) _ _
    (under (leb row.safety.code 2) _ _
    (under (leb row.deep.code 2) _ _
    (λ e. (let b = both_true (names_none_or n row.to_perm_var_num) _ e in
    simp (names_more n m row.to_perm_var_num more b.0, b.1)))))))))

module _ {k after : Kinds} (g : Grows k after) where
  named_more : (v : ℕ) → Named k v → Named after v
  named_more v (inl none) = inl none
  named_more v (inr t) = inr (omega (arith, t.0, g.more), g.same v t.0 ∙ t.1)

  mappings_more : {mappings : List ℕ} → Mappings k mappings → Mappings after mappings
  mappings_more {mappings} m = record { full = m.full; named = λ r h. named_more (get_or mappings r 0) (m.named r h) }

  queue_more : {first count : ℕ} {list : List ℕ} → Queue k first count list → Queue after first count list
  queue_more q =
      record {
        full = q.full;
        entry = λ i h. (let e = q.entry i h in record { chunk = e.chunk; variable = omega (arith, e.variable, g.more) });
      }

  permanent_more : (v : ℕ) → Permanent k v → Permanent after v
  permanent_more v p = (omega (arith, p.0, g.more), g.same v p.0 ∙ p.1)

  branches_more : {opened : ℕ} {rows sets : List ℕ} → Branches k opened rows sets → Branches after opened rows sets
  branches_more b =
      record {
        rows_full = b.rows_full;
        sets_full = b.sets_full;
        level = λ level h.
            (let f = b.level level h in
            record {
              arms = f.arms;
              arm = f.arm;
              shallow = λ v l e. (let s = f.shallow v l e in omega (arith, s, g.more));
              deep = λ v l e. (let s = f.deep v l e in omega (arith, s, g.more));
              hits = λ v l e. permanent_more v (f.hits v l e);
            });
      }

-- ---- One record more

module _ (c : Counters) (records : List ℕ) (variable : VariableRecord) (room : c.records < variables) where
  -- the kinds afterwards
  abbrev pub grown : Kinds
  grown =
      record {
        count = c.records + 1;
        small = omega arith;
        temporary = is_temporary (record_put records c.records variable);
      }

  module _ (k : Kinds) (known : c.records ≡ k.count) (every : Records k records) where
    pub grown_grows : Grows k grown
    unfolding is_temporary
    grown_grows =
        record {
          more = omega arith;
          same = λ w h.
              ap (λ (variable : VariableRecord). temporary variable.allocation)
              (record_put-other records c.records w variable room (omega (arith, k.small)) (omega arith))
              ∙ every.kind w h;
        }

    pub grown_kind : grown.temporary c.records ≡ temporary variable.allocation
    unfolding is_temporary
    grown_kind = ap (λ (variable : VariableRecord). temporary variable.allocation) (record_put-same records c.records variable every.full)

    module _ (fits : RecordFits grown c.records variable) where
      grown-row : (w : ℕ) → w < c.records + 1 → row_fits (c.records + 1) (row_at (record_put records c.records variable) w) ≡ true
      grown-row w hw =
          elim (eqb c.records w) as
          (λ t. eqb c.records w ≡ t → row_fits (c.records + 1) (row_at (record_put records c.records variable) w) ≡ true) [
            | true ↦ λ e.
                subst (λ (w : ℕ). row_fits (c.records + 1) (row_at (record_put records c.records variable) w) ≡ true) (eqb-true c.records w e)
                (subst (λ (row : Row). row_fits (c.records + 1) row ≡ true) (sym (row_put-same records c.records variable every.full))
                (row_of_record grown c.records variable fits))
            | false ↦ λ e.
                let differ = eqb-false c.records w e in
                let before : w < k.count = omega arith in
                subst (λ (row : Row). row_fits (c.records + 1) row ≡ true)
                (sym (row_put-other records c.records w variable room (omega arith) differ))
                (row_more k.count (c.records + 1) (row_at records w) (omega arith) (every.row w before))
          ]
          refl

      grown_records : Records grown (record_put records c.records variable)
      grown_records =
          record { full = record_put-length records c.records variable ∙ every.full; row = grown-row; kind = λ w h. refl }

pub grown_valid :
    {k : Kinds} {c : Counters} {records mappings queue freed rows sets : List ℕ} → Valid k c records mappings queue freed rows sets
    → (variable : VariableRecord) (room : c.records < variables) → RecordFits (grown c records variable room) c.records variable
    → Valid (grown c records variable room) (with_records (c.records + 1) c) (record_put records c.records variable) mappings queue freed rows sets
grown_valid {k} {c} {records} h variable room fits =
    let n = h.counted in
    let g = grown_grows c records variable room k n.records h.recorded in
    record {
      counted =
          record {
            argument = n.argument;
            search_start = n.search_start;
            slot = n.slot;
            arity = n.arity;
            tail = n.tail;
            records = refl;
            seen = n.seen;
            freed = n.freed;
            front = n.front;
            queued = n.queued;
            opened = n.opened;
            usable = n.usable;
          };
      recorded = grown_records c records variable room k n.records h.recorded fits;
      mapped = mappings_more g h.mapped;
      queued = queue_more g h.queued;
      given = h.given;
      opened = branches_more g h.opened;
    }

-- ---- Its sets, which are empty

module _ (k after : Kinds) (v : ℕ) (last : after.count ≡ k.count + 1) (here : v ≡ k.count) (room : v < variables) where
  set_emptied :
      (table : List ℕ) → length table ≡ variables → ((w : ℕ) → w < k.count → has (set_at table w) 0 ≡ false)
      → (w : ℕ) → w < after.count → has (set_at (set_put table v empty_set) w) 0 ≡ false
  set_emptied table full every w h =
      elim (eqb w v) as (λ t. eqb w v ≡ t → has (set_at (set_put table v empty_set) w) 0 ≡ false) [
        | true ↦ λ e.
            subst (λ (w : ℕ). has (set_at (set_put table v empty_set) w) 0 ≡ false) (sym (eqb-true w v e))
            (ap (λ (s : ℕ). has s 0) (set_put-same table v empty_set full) ∙ has-empty 0)
        | false ↦ λ e.
            let differ = eqb-false w v e in
            ap (λ (s : ℕ). has s 0) (set_put-other table v w empty_set room (omega arith) (λ same. differ (sym same)))
            ∙ every w (omega arith)
      ]
      refl

  pub restricted_more :
      {no_use conflict : List ℕ} → Restricted k no_use conflict
      → Restricted after (set_put no_use v empty_set) (set_put conflict v empty_set)
  restricted_more {no_use} {conflict} was =
      record {
        no_use_full = set_put-length no_use v empty_set ∙ was.no_use_full;
        conflict_full = set_put-length conflict v empty_set ∙ was.conflict_full;
        no_used = set_emptied no_use was.no_use_full was.no_used;
        conflicts = set_emptied conflict was.conflict_full was.conflicts;
      }

  -- ---- Its uses: none, then those of a list

  module _ {use_sets use_counts : List ℕ} (was : Uses k use_sets use_counts) where
    count_none : (w : ℕ) → w < after.count → (w ≡ v → ⊥) → get_or (set use_counts (v % variables) 0) w 0 ≡ get_or use_counts w 0
    count_none w h differ = let at : v % variables ≡ v = omega arith in rw at (get_or-set_other use_counts v w 0 0 differ)

    count_here : get_or (set use_counts (v % variables) 0) v 0 ≡ 0
    count_here = let at : v % variables ≡ v = omega arith in rw at (get_or-set_same use_counts v 0 0 (omega (arith, was.counts_full)))

    pub uses-none : Uses after use_sets (set use_counts (v % variables) 0)
    uses-none =
        record {
          sets_full = was.sets_full;
          counts_full = length-set use_counts (v % variables) 0 ∙ was.counts_full;
          count = λ w h.
              elim (eqb w v) as (λ t. eqb w v ≡ t → get_or (set use_counts (v % variables) 0) w 0 ≤ uses) [
                | true ↦ λ e.
                    subst (λ (w : ℕ). get_or (set use_counts (v % variables) 0) w 0 ≤ uses) (sym (eqb-true w v e)) (omega (arith, count_here))
                | false ↦ λ e.
                    let differ = eqb-false w v e in
                    omega (arith, count_none w h differ, was.count w (omega arith))
              ]
              refl;
          each = λ w h i l.
              elim (eqb w v) as (λ t. eqb w v ≡ t → is_use (get_or use_sets (w * uses + i) 0) ≡ true) [
                | true ↦ λ e.
                    let none = subst (λ (w : ℕ). i < get_or (set use_counts (v % variables) 0) w 0) (eqb-true w v e) l in
                    absurd (omega (arith, none, count_here))
                | false ↦ λ e.
                    let differ = eqb-false w v e in
                    was.each w (omega arith) i (omega (arith, l, count_none w h differ))
              ]
              refl;
        }

module _ (k : Kinds) (v : ℕ) (known : v < k.count) where
  module _ (use_sets use_counts : List ℕ) (was : Uses k use_sets use_counts) (code : ℕ) (is_one : is_use code ≡ true)
      (free : get_or use_counts v 0 < uses) where
    abbrev count : ℕ
    count = get_or use_counts v 0

    abbrev sets_after : List ℕ
    sets_after = set use_sets (v * uses + count) code

    abbrev counts_after : List ℕ
    counts_after = set use_counts v (count + 1)

    count-after : get_or counts_after v 0 ≡ count + 1
    count-after = get_or-set_same use_counts v (count + 1) 0 (omega (arith, k.small, was.counts_full))

    use_here : (i : ℕ) → i < count + 1 → is_use (get_or sets_after (v * uses + i) 0) ≡ true
    use_here i l =
        elim (eqb i count) as (λ t. eqb i count ≡ t → is_use (get_or sets_after (v * uses + i) 0) ≡ true) [
          | true ↦ λ e.
              subst (λ (i : ℕ). is_use (get_or sets_after (v * uses + i) 0) ≡ true) (sym (eqb-true i count e))
              (ap is_use (get_or-set_same use_sets (v * uses + count) code 0 (omega (arith, k.small, was.sets_full))) ∙ is_one)
          | false ↦ λ e.
              let differ = eqb-false i count e in
              ap is_use (get_or-set_other use_sets (v * uses + count) (v * uses + i) code 0 (omega arith)) ∙ was.each v known i (omega arith)
        ]
        refl

    use_elsewhere :
        (w : ℕ) → w < k.count → (w ≡ v → ⊥) → (i : ℕ) → i < get_or use_counts w 0
        → is_use (get_or sets_after (w * uses + i) 0) ≡ true
    use_elsewhere w h differ i l =
        let few = was.count w h in
        let apart : w * uses + i ≡ v * uses + count → ⊥ = λ e. differ (omega (arith, e, few, l, free)) in
        ap is_use (get_or-set_other use_sets (v * uses + count) (w * uses + i) code 0 apart) ∙ was.each w h i l

    uses-taken : Uses k sets_after counts_after
    uses-taken =
        record {
          sets_full = length-set use_sets (v * uses + count) code ∙ was.sets_full;
          counts_full = length-set use_counts v (count + 1) ∙ was.counts_full;
          count = λ w h.
              elim (eqb w v) as (λ t. eqb w v ≡ t → get_or counts_after w 0 ≤ uses) [
                | true ↦ λ e. subst (λ (w : ℕ). get_or counts_after w 0 ≤ uses) (sym (eqb-true w v e)) (omega (arith, count-after, free))
                | false ↦ λ e. (let differ = eqb-false w v e in omega (arith, get_or-set_other use_counts v w (count + 1) 0 differ, was.count w h))
              ]
              refl;
          each = λ w h i l.
              elim (eqb w v) as (λ t. eqb w v ≡ t → is_use (get_or sets_after (w * uses + i) 0) ≡ true) [
                | true ↦ λ e.
                    let same = eqb-true w v e in
                    let less = subst (λ (w : ℕ). i < get_or counts_after w 0) same l in
                    subst (λ (w : ℕ). is_use (get_or sets_after (w * uses + i) 0) ≡ true) (sym same) (use_here i (omega (arith, less, count-after)))
                | false ↦ λ e.
                    let differ = eqb-false w v e in
                    use_elsewhere w h differ i (omega (arith, l, get_or-set_other use_counts v w (count + 1) 0 differ))
              ]
              refl;
        }

  taken_room : (s : VariableSets) (code : ℕ) → takes_use s.use_sets s.use_counts v code ≡ true → get_or s.use_counts v 0 < uses
  unfolding takes_use
  taken_room s code e =
      let b = both_true (ltb v variables && ltb (get_or s.use_counts v 0) uses) _ e in
      ltb-true _ _ (both_true (ltb v variables) (ltb (get_or s.use_counts v 0) uses) b.0).1

  abbrev UsesOf : VariableSets → Type 0
  UsesOf s = Uses k s.use_sets s.use_counts

  use_given : (s : VariableSets) (code : ℕ) → is_use code ≡ true → UsesOf s → UsesOf (with_use v s code)
  unfolding use_sets_with use_counts_with
  use_given s code is_one was =
      let n = get_or s.use_counts v 0 in
      elim (takes_use s.use_sets s.use_counts v code) as
      (λ taken. takes_use s.use_sets s.use_counts v code ≡ taken
      → Uses k (if taken then set s.use_sets (v * uses + n) code else s.use_sets) (if taken then set s.use_counts v (n + 1) else s.use_counts)) [
        | true ↦ λ e. uses-taken s.use_sets s.use_counts was code is_one (taken_room s code e)
        | false ↦ λ e. was
      ]
      refl

  pub uses_given_lem : (s : VariableSets) → UsesOf s → (codes : List ℕ) → All (λ code. is_use code ≡ true) codes → UsesOf (uses_given s v codes)
  unfolding uses_given
  uses_given_lem s was codes all = each_keeps UsesOf (λ code. is_use code ≡ true) (with_use v) use_given s codes all was

  -- the other sets stay
  pub uses_given_restricted :
      (s : VariableSets) → Restricted k s.no_use s.conflict → (codes : List ℕ) → All (λ code. is_use code ≡ true) codes
      → Restricted k (uses_given s v codes).no_use (uses_given s v codes).conflict
  unfolding uses_given
  uses_given_restricted s was codes all =
      each_keeps (λ (t : VariableSets). Restricted k t.no_use t.conflict) (λ code. is_use code ≡ true) (with_use v) (λ t code is_one r. r) s codes all was

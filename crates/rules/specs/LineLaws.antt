-- Laws of a line that is not refused: it is carried out, and only what was seen is noted besides.
use Rattle.std.specs.Prelude.{ℕ, ◌+◌, ◌*◌, ◌≤◌, ◌<◌, ◌≡◌, true, false, length, Some}
use Rattle.std.proofs.Math.Path.{refl, sym, ap}
use Rattle.std.proofs.Common.{◌∙◌}
use mathlib.Core.List.{List, [], ◌∷◌, ◌++◌}
use Rattle.sizes.specs.Sizes.{variables, registers, freed_slots}
use Rattle.bit_set.specs.BitSet.{has}
use Rattle.forms.specs.declared.GenContext.{GenContext}
use Rattle.forms.specs.declared.Level.{Level}
use Rattle.forms.specs.Forms.{chunk_num}
use Rattle.registers.specs.declared.RegType.{RegType}
use Rattle.registers.specs.Registers.{number_of_place}
use Rattle.targets.specs.declared.Target.{Target}
use Rattle.variable_records.specs.declared.PermVarAllocation.TheVariants.{Pending}
use Rattle.variable_records.specs.declared.VarAlloc.TheVariants.{Perm}
use Rattle.variable_records.specs.Rows.{row_cells, record_at, is_temporary}
use Rattle.perm_free_list.specs.declared.FreedSlot.{FreedSlot}
use Rattle.perm_free_list.specs.PermFreeList.{entry_cells, entries}
use Rattle.allocator_state.specs.declared.Counters.{Counters}
use Rattle.allocator_state.specs.Counters.{with_events_seen}
use Rattle.freeing.specs.Freeing.{ReleaseOf}
use Rattle.mark_var.specs.MarkVar.{VarMark, settled, var_marked}
use Rattle.events.specs.declared.Event.{Event}
use Rattle.events.specs.declared.Event.TheVariants.{Var}
use Rattle.events.specs.Events.{refusal_before}
use Rattle.debray_allocator.specs.declared.State.{State}
use Rattle.debray_allocator.specs.declared.Answer.{Answer}
use Rattle.debray_allocator.specs.DebrayAllocator.{carried_out, seen_after, seen_in, refused_with, acted, unless_refused, stepped}
use Rattle.rules.specs.CountsLaws.{CountsKept, counts_same}
use Rattle.rules.specs.StepsLaws.{either_way}
use Rattle.rules.specs.MarkLaws.{Settles, unrefused, var_mark_settles}
use Rattle.rules.specs.SettledLaws.{settled-in_use, settled-counts, settled_leaves, settled-pending, settled_joins, permanent_record, temporary_record}
use Rattle.refusals.specs.Refusals.{is_refused}
use Rattle.refusals.specs.declared.Refusal.{Refusal}
use Rattle.std.specs.Prelude.{Option, None}

module _ (s : State) (event : Event) (list : List ℕ) where
  -- carried out, and not refused
  abbrev Carried : Answer → Type 0
  Carried a = (a ≡ seen_in (carried_out s event list) event) × ((carried_out s event list).refusal ≡ None)

  acted_carries : (acted s event list).refusal ≡ None → Carried (acted s event list)
  unfolding acted refused_with
  acted_carries =
      unrefused Carried (λ (a : Answer). a.refusal) (refusal_before s.counters event list) _ _
      refl
      (λ e. (refl, e))

  pub stepped_carries : (stepped s event list).refusal ≡ None → Carried (stepped s event list)
  unfolding stepped unless_refused refused_with
  stepped_carries =
      unrefused Carried (λ (a : Answer). a.refusal) (acted s event list).refusal _ _
      refl
      acted_carries

  -- what holds of a refused line, and of one that is carried out, holds of the line
  pub line-either_way :
      (P : Answer → Type 0) → ((refusal : Option Refusal) → P (refused_with s refusal)) → P (seen_in (carried_out s event list) event)
      → P (stepped s event list)
  unfolding stepped unless_refused acted
  line-either_way P refused carried =
      either_way P (is_refused (acted s event list).refusal)
      (refused (acted s event list).refusal)
      (either_way P (is_refused (refusal_before s.counters event list)) (refused (refusal_before s.counters event list)) carried)

-- ---- A variable's mark

-- what a mark that is not refused leaves is what settling its variable leaves
pub record LineSettles (s : State) (context : GenContext) (v : ℕ) (after : Answer) : Type 0 where
  pub counters : Counters
  pub before : List ℕ
  pub place : RegType
  pub kept : CountsKept s.records before
  pub told : after.at ≡ Some place
  pub records : after.state.records ≡ (settled counters before s.freed_slots context v place).records
  pub queue : after.state.freed_slots ≡ (settled counters before s.freed_slots context v place).list
  pub counted : after.state.counters ≡ with_events_seen 1 (settled counters before s.freed_slots context v place).released.counters
  pub unrefused : (settled counters before s.freed_slots context v place).released.refusal ≡ None

module _
    (s : State) (size : length s.records ≡ variables * row_cells) (target : Target) (level : Level) (context : GenContext) (v : ℕ)
    (inside : v < variables) (list : List ℕ) (accepted : (stepped s (Var target level context v) list).refusal ≡ None) where
  abbrev after : Answer
  after = stepped s (Var target level context v) list

  abbrev marked : VarMark
  marked =
      var_marked s.counters s.records s.mappings s.sets s.freed_slots s.branches.rows s.branches.sets
      (record { target = target; level = level; context = context; variable = v })

  mark_settles : Settles s.records s.freed_slots (record { target = target; level = level; context = context; variable = v }) marked
  mark_settles =
      var_mark_settles
      s.records
      s.freed_slots
      (record { target = target; level = level; context = context; variable = v })
      s.branches.rows
      s.branches.sets
      s.sets
      s.counters
      s.mappings
      (counts_same s.records size)
      inside
      (stepped_carries s (Var target level context v) list accepted).1

  pub line_settles : LineSettles s context v after
  unfolding seen_after
  line_settles =
      let carried = stepped_carries s (Var target level context v) list accepted in
      let settles = mark_settles in
      record {
        counters = settles.counters;
        before = settles.before;
        place = marked.marked.place;
        kept = settles.kept;
        told = ap (λ (a : Answer). a.at) carried.0;
        records = ap (λ (a : Answer). a.state.records) carried.0 ∙ ap (λ (r : ReleaseOf). r.records) settles.ends;
        queue = ap (λ (a : Answer). a.state.freed_slots) carried.0 ∙ ap (λ (r : ReleaseOf). r.list) settles.ends;
        counted = ap (λ (a : Answer). a.state.counters) carried.0 ∙ ap (λ (r : ReleaseOf). with_events_seen 1 r.released.counters) settles.ends;
        unrefused = sym (ap (λ (r : ReleaseOf). r.released.refusal) settles.ends) ∙ carried.1;
      }

  -- ---- What follows from it

  -- the place's number is in use
  pub line_in_use :
      (place : RegType) → number_of_place place ≤ registers → after.at ≡ Some place
      → has after.state.counters.in_use (number_of_place place) ≡ true
  line_in_use place register at =
      let ended = line_settles in
      let same : ended.place ≡ place = cc ended.told in
      ap (λ (c : Counters). has c.in_use (number_of_place place)) ended.counted
      ∙ ap
      (λ (p : RegType). has (settled ended.counters ended.before s.freed_slots context v p).released.counters.in_use (number_of_place place))
      same
      ∙ settled-in_use ended.counters ended.before s.freed_slots context v place register

  pub line-counts :
      (record_at s.records v).running_count < (record_at s.records v).num_occurrences
      → ((record_at after.state.records v).running_count ≡ (record_at s.records v).running_count + 1)
      × (after.state.freed_slots ≡ s.freed_slots)
  line-counts below =
      let ended = line_settles in
      let running = ended.kept.running v inside in
      let occurrences = ended.kept.occurrences v inside in
      let counts = settled-counts ended.counters ended.before s.freed_slots context v ended.place ended.kept.size (rw (running, occurrences) below) in (
        ap (λ (table : List ℕ). (record_at table v).running_count) ended.records ∙ counts.0 ∙ ap (λ (n : ℕ). n + 1) running,
        ended.queue ∙ counts.1,
      )

  module _ (all : (record_at s.records v).num_occurrences ≤ (record_at s.records v).running_count) where
    pub line_leaves :
        is_temporary s.records v ≡ true
        → ((record_at after.state.records v).running_count ≡ (record_at s.records v).running_count)
        × (after.state.freed_slots ≡ s.freed_slots)
    unfolding is_temporary
    line_leaves kind =
        let ended = line_settles in
        let running = ended.kept.running v inside in
        let occurrences = ended.kept.occurrences v inside in
        let held = temporary_record (record_at ended.before v).allocation (ended.kept.kind v inside ∙ kind) in
        let left =
        settled_leaves ended.counters ended.before s.freed_slots context v ended.place ended.kept.size (rw (running, occurrences) all)
        held.0 held.1 held.2 held.3 held.4 in (
          ap (λ (table : List ℕ). (record_at table v).running_count) ended.records ∙ left.0 ∙ running,
          ended.queue ∙ left.1,
        )

    pub line_frees :
        is_temporary s.records v ≡ false
        → length s.freed_slots ≡ freed_slots * entry_cells
        → ((record_at after.state.records v).running_count ≡ (record_at s.records v).running_count)
        × ((slot : ℕ) × ((record_at after.state.records v).allocation ≡ Perm slot Pending))
        × ((older : List FreedSlot)
        × (entries after.state.freed_slots after.state.counters.first_freed_slot 0 after.state.counters.freed_slots
        ≡ older ++ (record { chunk = chunk_num context; variable = v } ∷ [])))
    unfolding is_temporary
    line_frees kind queue =
        let ended = line_settles in
        let running = ended.kept.running v inside in
        let occurrences = ended.kept.occurrences v inside in
        let held = permanent_record (record_at ended.before v).allocation (ended.kept.kind v inside ∙ kind) in
        let done : (record_at ended.before v).num_occurrences ≤ (record_at ended.before v).running_count = rw (running, occurrences) all in
        let pending =
        settled-pending ended.counters ended.before s.freed_slots context v ended.place ended.kept.size done held.0 held.1 held.2 in
        let joined =
        settled_joins ended.counters ended.before s.freed_slots context v ended.place ended.kept.size done held.0 held.1 held.2
        queue ended.unrefused in (
          ap (λ (table : List ℕ). (record_at table v).running_count) ended.records ∙ pending.1 ∙ running,
          (number_of_place ended.place, ap (λ (table : List ℕ). (record_at table v).allocation) ended.records ∙ pending.0),
          (joined.0, rw (ended.queue, ended.counted) joined.1),
        )

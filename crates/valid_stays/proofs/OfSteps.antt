-- A valid state stays valid after each event.
use Rattle.std.specs.Prelude.{ℕ, ◌+◌, ◌≤◌, ◌<◌, ◌≡◌, true, ◌||◌, eqb, leb, Option}
use Rattle.std.proofs.Math.Path.{refl}
use Rattle.std.proofs.Math.Logic.{inl, inr, ⊎_elim}
use mathlib.Core.List.{List, [], ◌∷◌}
use native.Mathlib.Omega.{arith}
use Rattle.std.proofs.Math.Dec.{ltb}
use borrow.Author.Tests.{ltb-true, leb-true, leb-false, eqb-true}
use Rattle.notation.specs.ChoiceLaws.{both_true, either, by_test}
use Rattle.refusals.specs.declared.Refusal.{Refusal}
use Rattle.refusals.specs.Refusals.{is_refused}
use Rattle.sizes.specs.Sizes.{variables, chunks, counts, is_chunk, is_count}
use Rattle.sizes.specs.SizesLaws.{register_exactly}
use Rattle.forms.specs.Forms.{chunk_num}
use Rattle.forms.specs.declared.GenContext.{GenContext}
use Rattle.variable_records.specs.declared.PermVarAllocation.TheVariants.{Pending}
use Rattle.variable_records.specs.declared.VarAlloc.TheVariants.{Perm as PermAlloc}
use Rattle.variable_records.specs.Rows.{temporary}
use Rattle.allocator_state.specs.declared.Counters.{Counters}
use Rattle.clause_records.specs.ClauseRecords.{Rows, rows, rows_put, fresh, fresh_temp, Recording, perm_recorded, temp_recorded}
use Rattle.events.specs.declared.Entries.TheVariants.{Uses as UseEntries, Arguments, Variables}
use Rattle.events.specs.declared.Event.{Event}
use Rattle.events.specs.declared.Event.TheVariants.{Temp, Perm, Sets, Head, Args, Var, Anon, NonVar, Cut, Incr, Free, Safe, Give, Tail, Next, Open, Arm, Take, Close, Reset, Contents, ClearFree}
use Rattle.events.specs.Events.{is_use, no_variable, all_fit, context_fits, in_size, is_record, refusal_before}
use Rattle.debray_allocator.specs.declared.State.{State}
use Rattle.debray_allocator.specs.declared.Answer.{Answer}
use Rattle.debray_allocator.specs.State.{state_of, branch_tables}
use Rattle.debray_allocator.specs.DebrayAllocator.{with_recording, carried_out, seen_after, seen_in, refused_with, acted, unless_refused, stepped}
use Rattle.invariants.specs.Lists.{All}
use Rattle.invariants.specs.OfEvents.{unrefused_in_size}
use Rattle.valid_stays.specs.Tests.{one_of}
use Rattle.valid_stays.specs.Fits.{Kinds, RecordFits, Valid, StateFits}
use Rattle.valid_stays.proofs.Steps.{tail_valid, seen_valid}
use Rattle.valid_stays.proofs.OfAllocation.{freed_valid}
use Rattle.valid_stays.proofs.OfMarkVar.{var_marked_valid}
use Rattle.valid_stays.proofs.OfOtherMarks.{anon_marked_valid, non_var_marked_valid, cut_marked_valid}
use Rattle.valid_stays.proofs.OfResets.{Argument, args_valid, head_valid, next_valid, clear_valid, contents_valid, reset_valid, give_valid, incremented_valid, safe_valid}
use Rattle.valid_stays.proofs.OfBranchEvents.{open_valid, arm_valid, take_valid, close_valid}
use Rattle.valid_stays.proofs.OfSets.{populated_uses, populated_restricted}
use Rattle.valid_stays.proofs.OfClauseRecords.{grown, grown_kind, grown_valid, restricted_more, uses-none, uses_given_lem, uses_given_restricted}

-- with so many variables, of such kinds
abbrev pub Fitting : State → Type 0
Fitting s = (k : Kinds) × StateFits k s

abbrev FittingAfter : Answer → Type 0
FittingAfter a = Fitting a.state

-- ---- What a line's lists hold

uses_in_size : (records : ℕ) (codes : List ℕ) → all_fit UseEntries records codes ≡ true → All (λ code. is_use code ≡ true) codes
unfolding all_fit
uses_in_size records [] e = tt
uses_in_size records (code ∷ codes) e =
    let b = both_true (is_use code) (all_fit UseEntries records codes) e in (b.0, uses_in_size records codes b.1)

module _ (k : Kinds) (records : ℕ) (same : records ≡ k.count) where
  known_variable : (v : ℕ) → ltb v records ≡ true → v < k.count
  known_variable v e = omega (arith, ltb-true v records e)

  known_variables : (vs : List ℕ) → all_fit Variables records vs ≡ true → All (λ v. v < k.count) vs
  unfolding all_fit
  known_variables [] e = tt
  known_variables (v ∷ vs) e =
      let b = both_true (ltb v records) (all_fit Variables records vs) e in (known_variable v b.0, known_variables vs b.1)

  known_arguments : (vs : List ℕ) → all_fit Arguments records vs ≡ true → All (Argument k) vs
  unfolding all_fit
  known_arguments [] e = tt
  known_arguments (v ∷ vs) e =
      let b = both_true (eqb v no_variable || ltb v records) (all_fit Arguments records vs) e in (
        ⊎_elim (λ none. inl (omega (arith, eqb-true v no_variable none))) (λ known. inr (known_variable v known))
            (one_of (eqb v no_variable) (ltb v records) b.0),
        known_arguments vs b.1,
      )

-- ---- Each event

module _ (s : State) (k : Kinds) (fits : StateFits k s) where
  abbrev c : Counters
  c = s.counters

  abbrev tables : Rows
  tables = rows s.records s.sets

  same : c.records ≡ k.count
  same = fits.whole.counted.records

  with_whole :
      {after : Counters} {records mappings queue freed branch_rows branch_sets : List ℕ}
      → Valid k after records mappings queue freed branch_rows branch_sets
      → Fitting (state_of after records s.sets mappings freed queue (branch_tables branch_rows branch_sets))
  with_whole valid = (k, record { whole = valid; uses = fits.uses; restricted = fits.restricted })

  -- a record more

  module _ (room : c.records < variables) (occurrences : ℕ) (small : occurrences ≤ counts) where
    perm_fits : RecordFits (grown c s.records (fresh (PermAlloc 0 Pending) occurrences) room) c.records (fresh (PermAlloc 0 Pending) occurrences)
    unfolding temporary
    perm_fits =
        record {
          alloc = (grown_kind c s.records (fresh (PermAlloc 0 Pending) occurrences) room k same fits.whole.recorded, omega arith);
          occurrences = small;
          running = omega arith;
        }

    temp_fits :
        (context : GenContext) → chunk_num context ≤ chunks
        → RecordFits (grown c s.records (fresh_temp context occurrences) room) c.records (fresh_temp context occurrences)
    unfolding temporary
    temp_fits context chunk =
        record {
          alloc = (
            grown_kind c s.records (fresh_temp context occurrences) room k same fits.whole.recorded,
            chunk,
            omega arith,
            refl,
          );
          occurrences = small;
          running = omega arith;
        }

  perm_recorded-fits :
      (occurrences : ℕ) → occurrences ≤ counts → FittingAfter (with_recording s (perm_recorded c tables occurrences))
  unfolding perm_recorded rows_put
  perm_recorded-fits occurrences small =
      let variable = fresh (PermAlloc 0 Pending) occurrences in
      by_test (λ (r : Recording). FittingAfter (with_recording s r)) (leb variables c.records) (λ e. (k, fits))
      (λ e. (let room = leb-false variables c.records e in
      let after = grown c s.records variable room in
      let last : after.count ≡ k.count + 1 = omega (arith, same) in (
        after,
        record {
          whole = grown_valid fits.whole variable room (perm_fits room occurrences small);
          uses = uses-none k after c.records last same room fits.uses;
          restricted = restricted_more k after c.records last same room fits.restricted;
        },
      )))

  temp_recorded-fits :
      (context : GenContext) → chunk_num context ≤ chunks → (occurrences : ℕ) → occurrences ≤ counts → (codes : List ℕ)
      → All (λ code. is_use code ≡ true) codes
      → FittingAfter (with_recording s (temp_recorded c tables context occurrences codes))
  unfolding temp_recorded rows_put
  temp_recorded-fits context chunk occurrences small codes all =
      let variable = fresh_temp context occurrences in
      by_test (λ (r : Recording). FittingAfter (with_recording s r)) (leb variables c.records) (λ e. (k, fits))
      (λ e. (let room = leb-false variables c.records e in
      let after = grown c s.records variable room in
      let last : after.count ≡ k.count + 1 = omega (arith, same) in (
        after,
        record {
          whole = grown_valid fits.whole variable room (temp_fits room occurrences small context chunk);
          uses = uses_given_lem after c.records (omega arith) (rows_put tables c.records variable).sets
              (uses-none k after c.records last same room fits.uses) codes all;
          restricted = uses_given_restricted after c.records (omega arith) (rows_put tables c.records variable).sets
              (restricted_more k after c.records last same room fits.restricted) codes all;
        },
      )))

  pub carried-fits : (event : Event) (list : List ℕ) → in_size c.records event list ≡ true → FittingAfter (carried_out s event list)
  carried-fits (Temp context occurrences) list size =
      let a = both_true (context_fits context) _ size in
      let b = both_true (is_count occurrences) _ a.1 in
      temp_recorded-fits context (leb-true _ _ a.0) occurrences (leb-true _ _ b.0) list (uses_in_size c.records list b.1)
  carried-fits (Perm occurrences) list size = perm_recorded-fits occurrences (leb-true _ _ size)
  carried-fits Sets list size = (
    k,
    record {
      whole = fits.whole;
      uses = populated_uses k c fits.whole.counted s.records s.sets fits.uses;
      restricted =
          populated_restricted k c fits.whole.counted s.records s.sets fits.uses fits.restricted;
    },
  )
  carried-fits Head list size = with_whole (head_valid k fits.whole list (known_arguments k c.records same list size))
  carried-fits (Args count) list size = with_whole (args_valid k fits.whole count)
  carried-fits (Var target level context v) list size =
      let b = both_true (context_fits context) (ltb v c.records) size in
      with_whole
      (var_marked_valid k s.sets fits.uses (record { target = target; level = level; context = context; variable = v })
      (known_variable k c.records same v b.1) (leb-true _ _ b.0) fits.whole)
  carried-fits (Anon target level context) list size =
      with_whole (anon_marked_valid k s.sets fits.uses fits.whole target level context)
  carried-fits (NonVar level context cell) list size =
      with_whole (non_var_marked_valid k s.sets fits.uses fits.whole level context cell)
  carried-fits (Cut v chunk) list size =
      with_whole (cut_marked_valid k v (known_variable k c.records same v (both_true (ltb v c.records) (is_chunk chunk) size).0) fits.whole chunk)
  carried-fits (Incr v) list size = with_whole (incremented_valid k fits.whole v (known_variable k c.records same v size))
  carried-fits (Free chunk v) list size =
      let b = both_true (is_chunk chunk) (ltb v c.records) size in
      with_whole (freed_valid k chunk v (leb-true _ _ b.0) (known_variable k c.records same v b.1) fits.whole)
  carried-fits (Safe v) list size = with_whole (safe_valid k fits.whole v (known_variable k c.records same v size))
  carried-fits (Give r) list size =
      let placed = (register_exactly r).0 size in with_whole (give_valid k fits.whole r (record { some = placed.0; last = placed.1 }))
  carried-fits (Tail tail) list size = with_whole (tail_valid k fits.whole tail (leb-true _ _ size))
  carried-fits Next list size = with_whole (next_valid k fits.whole)
  carried-fits (Open start span arms) list size = with_whole (open_valid k fits.whole start span arms (leb-true _ _ size))
  carried-fits (Arm start span) list size = with_whole (arm_valid k fits.whole start span)
  carried-fits Take list size = with_whole (take_valid k fits.whole)
  carried-fits (Close depth) list size = with_whole (close_valid k fits.whole depth list (known_variables k c.records same list size))
  carried-fits Reset list size = with_whole (reset_valid k fits.whole)
  carried-fits Contents list size = with_whole (contents_valid k fits.whole)
  carried-fits ClearFree list size = with_whole (clear_valid k fits.whole)

-- ---- A line

seen-fits : (a : Answer) → FittingAfter a → (event : Event) → FittingAfter (seen_in a event)
unfolding seen_after
seen-fits a (k, fits) event =
    either
    (λ (c : Counters).
    Fitting
    (state_of c a.state.records a.state.sets a.state.mappings a.state.freed_registers a.state.freed_slots
    a.state.branches))
    (is_record event) (k, fits)
    (k, record { whole = seen_valid k fits.whole; uses = fits.uses; restricted = fits.restricted })

module _ (s : State) (fits : Fitting s) where
  -- a refused line leaves the state as it was
  refused-fits : (refusal : Option Refusal) → FittingAfter (refused_with s refusal)
  unfolding refused_with
  refused-fits refusal = fits

  acted-fits : (event : Event) (list : List ℕ) → FittingAfter (acted s event list)
  unfolding acted
  acted-fits event list =
      let refusal = refusal_before s.counters event list in
      by_test FittingAfter (is_refused refusal) (λ e. refused-fits refusal)
      (λ e. seen-fits (carried_out s event list)
      (carried-fits s fits.0 fits.1 event list (unrefused_in_size s.counters event list e)) event)

  unless_refused-fits : (a : Answer) → FittingAfter a → FittingAfter (unless_refused s a)
  unfolding unless_refused
  unless_refused-fits a h = either FittingAfter (is_refused a.refusal) (refused-fits a.refusal) h

  pub stepped-fits : (event : Event) (list : List ℕ) → FittingAfter (stepped s event list)
  unfolding stepped
  stepped-fits event list = unless_refused-fits (acted s event list) (acted-fits event list)

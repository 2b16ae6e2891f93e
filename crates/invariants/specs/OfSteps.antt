-- Every record stays of its kind, in a good place, after each event.
use Rattle.std.specs.Prelude.{ℕ, ◌≡◌, true, List}
use Rattle.notation.specs.ChoiceLaws.{by_test, either}
use Rattle.events.specs.declared.Event.{Event}
use Rattle.events.specs.declared.Event.TheVariants.{Temp, Perm, Sets, Head, Args, Var, Anon, NonVar, Cut, Incr, Free, Safe, Give, Tail, Next, Open, Arm, Take, Close, Reset, Contents, ClearFree}
use Rattle.events.specs.Events.{in_size, refusal_before}
use Rattle.clause_records.specs.ClauseRecords.{Rows, rows}
use Rattle.debray_allocator.specs.declared.State.{State}
use Rattle.debray_allocator.specs.declared.Answer.{Answer}
use Rattle.debray_allocator.specs.DebrayAllocator.{carried_out, refused_with, acted, unless_refused, stepped}
use Rattle.invariants.specs.Lists.{All}
use Rattle.invariants.specs.Kept.{Wanted, Kept}
use Rattle.invariants.specs.OfEvacuation.{GoodUses}
use Rattle.invariants.specs.OfAllocation.{freed_keeps}
use Rattle.invariants.specs.OfMarkVar.{var_marked_keeps}
use Rattle.invariants.specs.OfOtherMarks.{anon_marked_keeps, non_var_marked_keeps, cut_marked_keeps}
use Rattle.invariants.specs.OfResets.{head_reset_keeps, incremented_keeps, safe_keeps}
use Rattle.invariants.specs.OfClauseRecords.{AnyKindNext, perm_recorded_keeps, temp_recorded_keeps, perm_recorded_good, temp_recorded_good, populated_good}
use Rattle.invariants.specs.OfBranches.{close_keeps, take_keeps}
use Rattle.invariants.specs.OfEvents.{unrefused_in_size, temp_uses_good, freed_good}
use Rattle.refusals.specs.Refusals.{is_refused}
use Rattle.refusals.specs.declared.Refusal.{Refusal}
use Rattle.std.specs.Prelude.{Option}

-- every record is of its kind, in a good place; every use is of a good register, and every freed register is good
pub record Fits (k : Wanted) (records use_sets freed_registers : List ℕ) : Type 0 where
  pub kept : Kept k records
  pub uses : GoodUses k use_sets
  pub freed : All k.Good freed_registers

module _ (k : Wanted) where
  abbrev pub FitsIn : State → Type 0
  FitsIn s = Fits k s.records s.sets.use_sets s.freed_registers

  abbrev FitsAfter : Answer → Type 0
  FitsAfter a = FitsIn a.state

  module _ (s : State) (fits : FitsIn s) (new : AnyKindNext k s.counters) where
    with_kept : {records : List ℕ} → Kept k records → Fits k records s.sets.use_sets s.freed_registers
    with_kept kept = record { kept = kept; uses = fits.uses; freed = fits.freed }

    abbrev tables : Rows
    tables = rows s.records s.sets

    pub carried-fits :
        (event : Event) (list : List ℕ) → in_size s.counters.records event list ≡ true
        → FitsAfter (carried_out s event list)
    carried-fits (Temp context occurrences) list size =
        record {
          kept = temp_recorded_keeps k s.counters tables fits.kept new context occurrences list;
          uses = temp_recorded_good k s.counters tables context occurrences list
              (temp_uses_good k s.counters.records context occurrences list size) fits.uses;
          freed = fits.freed;
        }
    carried-fits (Perm occurrences) list size =
        record {
          kept = perm_recorded_keeps k s.counters tables fits.kept new occurrences;
          uses = perm_recorded_good k s.counters tables occurrences fits.uses;
          freed = fits.freed;
        }
    carried-fits Sets list size =
        record { kept = fits.kept; uses = populated_good k s.counters s.records s.sets fits.uses; freed = fits.freed }
    carried-fits Head list size = with_kept (head_reset_keeps k fits.kept s.counters s.mappings list)
    carried-fits (Args count) list size = fits
    carried-fits (Var target level context v) list size =
        with_kept
        (var_marked_keeps k s.sets fits.uses s.freed_slots s.branches.rows s.branches.sets
        (record { target = target; level = level; context = context; variable = v }) fits.kept s.counters s.mappings)
    carried-fits (Anon target level context) list size =
        with_kept (anon_marked_keeps k s.sets fits.uses fits.kept s.mappings s.counters s.freed_registers target level context)
    carried-fits (NonVar level context cell) list size =
        with_kept (non_var_marked_keeps k s.sets fits.uses fits.kept s.mappings s.counters s.freed_registers level context cell)
    carried-fits (Cut v chunk) list size =
        with_kept (cut_marked_keeps k fits.kept v s.counters s.freed_slots s.freed_registers chunk fits.freed)
    carried-fits (Incr v) list size = with_kept (incremented_keeps k fits.kept v)
    carried-fits (Free chunk v) list size = with_kept (freed_keeps k fits.kept s.counters s.freed_slots chunk v)
    carried-fits (Safe v) list size = with_kept (safe_keeps k fits.kept s.branches.rows s.counters.open_branches v)
    carried-fits (Give r) list size =
        record {
          kept = fits.kept;
          uses = fits.uses;
          freed = freed_good k s.counters s.freed_registers r size fits.freed;
        }
    carried-fits (Tail tail) list size = fits
    carried-fits Next list size = fits
    carried-fits (Open start span arms) list size = fits
    carried-fits (Arm start span) list size = fits
    carried-fits Take list size = with_kept (take_keeps k fits.kept s.branches.rows s.branches.sets s.counters)
    carried-fits (Close depth) list size =
        with_kept (close_keeps k fits.kept s.branches.rows s.branches.sets s.counters depth list)
    carried-fits Reset list size = fits
    carried-fits Contents list size = fits
    carried-fits ClearFree list size = fits

    -- a refused line leaves the state as it was
    refused-fits : (refusal : Option Refusal) → FitsAfter (refused_with s refusal)
    unfolding refused_with
    refused-fits refusal = fits

    pub acted-fits : (event : Event) (list : List ℕ) → FitsAfter (acted s event list)
    unfolding acted
    acted-fits event list =
        let refusal = refusal_before s.counters event list in
        by_test FitsAfter (is_refused refusal) (λ e. refused-fits refusal)
        (λ e. carried-fits event list (unrefused_in_size s.counters event list e))

    unless_refused-fits : (a : Answer) → FitsAfter a → FitsAfter (unless_refused s a)
    unfolding unless_refused
    unless_refused-fits a h = either FitsAfter (is_refused a.refusal) (refused-fits a.refusal) h

    pub stepped-fits : (event : Event) (list : List ℕ) → FitsAfter (stepped s event list)
    unfolding stepped
    stepped-fits event list = unless_refused-fits (acted s event list) (acted-fits event list)

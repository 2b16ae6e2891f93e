-- Each line of an event sheet, as a step of the state.
use Rattle.std.specs.Prelude.{ℕ, List, Option, Some, None}
use Rattle.std.specs.Prelude.{if◌then◌else◌}
use Rattle.refusals.specs.declared.Refusal.{Refusal}
use Rattle.refusals.specs.Refusals.{accepted, is_refused}
use Rattle.code_deque.specs.declared.CodeDeque.TheVariants.{Empty}
use Rattle.allocator_state.specs.declared.Counters.{Counters}
use Rattle.allocator_state.specs.Counters.{with_events_seen}
use Rattle.restricting_sets.specs.declared.VariableSets.{VariableSets}
use Rattle.branch_stack.specs.declared.BranchStack.{BranchStack}
use Rattle.freeing.specs.declared.Released.{Released}
use Rattle.freeing.specs.Freeing.{Release, ReleaseOf, freed}
use Rattle.marks.specs.declared.Marked.{Marked}
use Rattle.mark_var.specs.MarkVar.{VarMark, var_marked}
use Rattle.other_marks.specs.OtherMarks.{MarkOf, CutOf, anon_marked, non_var_marked, cut_marked}
use Rattle.resets.specs.Resets.{Heading, Clearing, arg_reset, head_reset, arg_advanced, contents_reset, whole_reset, free_list_reset, tail_set}
use Rattle.resets.specs.Resets.{Answer as Counting, register_freed, running_incremented, safe_marked}
use Rattle.clause_records.specs.ClauseRecords.{Rows, Recording, rows, perm_recorded, temp_recorded, populated}
use Rattle.branch_events.specs.BranchEvents.{Stack, BranchStep, opened, armed, stock_taken, closed}
use Rattle.events.specs.declared.Event.{Event}
use Rattle.events.specs.declared.Event.TheVariants.{Temp, Perm, Sets as PopulateSets, Head, Args, Var, Anon, NonVar, Cut, Incr, Free, Safe, Give, Tail, Next, Open, Arm, Take, Close, Reset, Contents, ClearFree}
use Rattle.events.specs.Events.{is_record, refusal_before}
use Rattle.debray_allocator.specs.declared.State.{State}
use Rattle.debray_allocator.specs.declared.Acted.{Acted}
use Rattle.debray_allocator.specs.declared.Answer.{Answer}
use Rattle.debray_allocator.specs.State.{state_of, put_records, put_sets, put_mappings, put_freed_registers, put_freed_slots, put_branches}

-- ---- What a line makes: the counters, the instructions, the place for `at`, the refusal

abbrev pub by_refusal : Counters → Option Refusal → Acted
by_refusal c refusal = record { counters = c; code = Empty; at = None; refusal = refusal }

abbrev pub plainly : Counters → Acted
plainly c = by_refusal c accepted

abbrev pub by_release : Released → Acted
by_release r = by_refusal r.counters r.refusal

abbrev pub by_mark : Marked → Acted
by_mark m = record { counters = m.reached.counters; code = m.reached.code; at = Some m.place; refusal = m.reached.refusal }

-- with the tables afterwards
abbrev pub answer_of : List ℕ → VariableSets → List ℕ → List ℕ → List ℕ → BranchStack → Acted → Answer
answer_of records sets mappings freed_registers freed_slots branches acted =
    record {
      state = state_of acted.counters records sets mappings freed_registers freed_slots branches;
      code = acted.code;
      at = acted.at;
      refusal = acted.refusal;
    }

-- with the tables of a state
abbrev pub with_counters : State → Acted → Answer
with_counters s acted = answer_of s.records s.sets s.mappings s.freed_registers s.freed_slots s.branches acted

-- ---- The state with the tables that an event may change

-- the tables in which a record has its row
abbrev pub put_record_tables : Rows → State → State
put_record_tables t s = put_records t.records (put_sets t.sets s)

module _ (s : State) where
  abbrev pub only_counters : Counters → Answer
  only_counters c = with_counters s (plainly c)

  abbrev pub with_recording : Recording → Answer
  with_recording r = with_counters (put_record_tables r.tables s) (by_release r.released)

  abbrev pub with_restricting : VariableSets → Answer
  with_restricting sets = with_counters (put_sets sets s) (plainly s.counters)

  abbrev pub with_heading : Heading → Answer
  with_heading h = with_counters (put_records h.records (put_mappings h.mappings s)) (plainly h.counters)

  abbrev pub with_clearing : Clearing → Answer
  with_clearing cleared = with_counters (put_mappings cleared.mappings s) (plainly cleared.counters)

  abbrev pub with_var_mark : VarMark → Answer
  with_var_mark m =
      with_counters
      (put_records m.records (put_mappings m.mappings (put_freed_slots m.list (put_branches m.rows m.branch_sets s))))
      (by_mark m.marked)

  abbrev pub with_mark : MarkOf → Answer
  with_mark m = with_counters (put_records m.records (put_mappings m.mappings s)) (by_mark m.marked)

  abbrev pub with_cut : CutOf → Answer
  with_cut m = with_counters (put_records m.records s) (by_mark m.marked)

  abbrev pub with_counting : Counting → Answer
  with_counting a = with_counters (put_records a.records s) (by_refusal s.counters a.refusal)

  abbrev pub with_release_of : ReleaseOf → Answer
  with_release_of r = with_counters (put_records r.records (put_freed_slots r.list s)) (by_release r.released)

  abbrev pub with_freed_register : Release → Answer
  with_freed_register r = with_counters (put_freed_registers r.list s) (by_release r.released)

  abbrev pub with_stack : Stack → Answer
  with_stack b = with_counters (put_branches b.rows b.sets s) (by_release b.released)

  abbrev pub with_branch_step : BranchStep → Answer
  with_branch_step b = with_counters (put_records b.records (put_branches b.rows b.sets s)) (by_release b.released)

  -- ---- A line that nothing refused before, by its word: rules 5.6 to 5.27

  abbrev pub carried_out : Event → List ℕ → Answer
  carried_out (Temp context occurrences) list = with_recording (temp_recorded s.counters (rows s.records s.sets) context occurrences list)
  carried_out (Perm occurrences) list = with_recording (perm_recorded s.counters (rows s.records s.sets) occurrences)
  carried_out PopulateSets list = with_restricting (populated s.counters s.records s.sets)
  carried_out Head list = with_heading (head_reset s.counters s.records s.mappings list)
  carried_out (Args count) list = only_counters (arg_reset s.counters count)
  carried_out (Var target level context v) list = with_var_mark (var_marked s.counters s.records s.mappings s.sets s.freed_slots s.branches.rows s.branches.sets (record { target = target; level = level; context = context; variable = v }))
  carried_out (Anon target level context) list = with_mark (anon_marked s.counters s.records s.mappings s.sets s.freed_registers target level context)
  carried_out (NonVar level context cell) list = with_mark (non_var_marked s.counters s.records s.mappings s.sets s.freed_registers level context cell)
  carried_out (Cut v chunk) list = with_cut (cut_marked s.counters s.records s.freed_slots s.freed_registers v chunk)
  carried_out (Incr v) list = with_counting (running_incremented s.records v)
  carried_out (Free chunk v) list = with_release_of (freed s.counters s.records s.freed_slots chunk v)
  carried_out (Safe v) list = with_counting (safe_marked s.records s.branches.rows s.counters.open_branches v)
  carried_out (Give r) list = with_freed_register (register_freed s.counters s.freed_registers r)
  carried_out (Tail tail) list = only_counters (tail_set s.counters tail)
  carried_out Next list = only_counters (arg_advanced s.counters)
  carried_out (Open start span arms) list = with_stack (opened s.counters s.branches.rows s.branches.sets start span arms)
  carried_out (Arm start span) list = with_stack (armed s.counters s.branches.rows s.branches.sets start span)
  carried_out Take list = with_branch_step (stock_taken s.counters s.records s.branches.rows s.branches.sets)
  carried_out (Close depth) list = with_branch_step (closed s.counters s.records s.branches.rows s.branches.sets depth list)
  carried_out Reset list = with_clearing (whole_reset s.counters)
  carried_out Contents list = with_clearing (contents_reset s.counters)
  carried_out ClearFree list = only_counters (free_list_reset s.counters)

-- ---- A line

-- rule 6.1: whether an event has been seen
unfoldable pub seen_after : Counters → Event → Counters
seen_after c event = if is_record event then c else with_events_seen 1 c

-- what a line makes, with other counters
abbrev pub acted_with : Counters → Answer → Acted
acted_with c a = record { counters = c; code = a.code; at = a.at; refusal = a.refusal }

abbrev pub acted_of : Answer → Acted
acted_of a = acted_with a.state.counters a

abbrev pub seen_in : Answer → Event → Answer
seen_in a event = with_counters a.state (acted_with (seen_after a.state.counters event) a)

unfoldable pub refused_with : State → Option Refusal → Answer
refused_with s refusal = with_counters s (by_refusal s.counters refusal)

-- how far a line comes: refused before it, or carried out
unfoldable pub acted : State → Event → List ℕ → Answer
acted s event list =
    if is_refused (refusal_before s.counters event list) then refused_with s (refusal_before s.counters event list)
    else seen_in (carried_out s event list) event

-- rule 1.3: a refusal leaves the state as it was
unfoldable pub unless_refused : State → Answer → Answer
unless_refused s a = if is_refused a.refusal then refused_with s a.refusal else a

unfoldable pub stepped : State → Event → List ℕ → Answer
stepped s event list = unless_refused s (acted s event list)

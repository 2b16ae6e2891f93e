-- Rule 25.2: two answers that meet a contract are equal, result, state and every lent byte. Those of check sheets stand in
-- check_exactly.
use Rattle.std.specs.Prelude.{ℕ, ◌≡◌, List, Option}
use Rattle.std.proofs.Common.{ap₂}
use Rattle.notation.specs.EquationLaws.{no_second, no_second_part}
use Rattle.refusals.specs.declared.Refusal.{Refusal}
use Rattle.printing.specs.PrintingLaws.{put_unique}
use Rattle.temp_var_data.specs.Uses.{UseAdded}
use Rattle.restricting_sets.specs.declared.VariableSets.{VariableSets}
use Rattle.restricting_sets.specs.Restricting.{sets as variable_sets, Populated}
use Rattle.branch_stack.specs.declared.BranchStack.{BranchStack}
use Rattle.allocator_state.specs.declared.Counters.{Counters}
use Rattle.evacuation.specs.declared.Reached.{Reached}
use Rattle.evacuation.specs.Evacuation.{Evacuation, evacuation}
use Rattle.allocation.specs.declared.Placed.{Placed}
use Rattle.allocation.specs.Allocation.{Placement, placement}
use Rattle.freeing.specs.declared.Released.{Released}
use Rattle.freeing.specs.Freeing.{Release, release, ReleaseOf, release_of}
use Rattle.reserved_var.specs.ReservedVar.{Step, step}
use Rattle.marks.specs.declared.RegPlaced.{RegPlaced}
use Rattle.marks.specs.declared.Marked.{Marked}
use Rattle.marks.specs.Marks.{RegisterPlacement, register_placement}
use Rattle.mark_var.specs.MarkVar.{VarMark, var_mark}
use Rattle.other_marks.specs.OtherMarks.{MarkOf, mark_of, CutOf, cut_of}
use Rattle.resets.specs.Resets.{Heading, heading, Clearing, clearing, Answer, answer}
use Rattle.clause_records.specs.ClauseRecords.{rows, Recording, recording}
use Rattle.branch_events.specs.BranchEvents.{Stack, stack_of, BranchStep, branch_of}
use Rattle.debray_allocator.specs.declared.Acted.{Acted}
use Rattle.debray_allocator.specs.declared.Answer.{Answer as StepAnswer}
use Rattle.debray_allocator.specs.DebrayAllocator.{answer_of, acted_of}
use Rattle.answers.specs.declared.Adding.{Adding}
use Rattle.answers.specs.Adding.{Added}

-- ---- The records, and the result

-- `allocation`: alloc_perm_var
pub placement_unique :
    {records records' : List ℕ} {r r' : Placed} {meaning : Placement}
    → placement records r ≡ meaning → placement records' r' ≡ meaning → (records ≡ records') × (r ≡ r')
placement_unique x y = (
  no_second_part (λ (p : Placement). p.records) x y,
  no_second_part (λ (p : Placement). p.placed) x y,
)

-- `reserved_var`: put_argument, put_subterm
pub step_unique :
    {records records' : List ℕ} {r r' : Reached} {meaning : Step}
    → step records r ≡ meaning → step records' r' ≡ meaning → (records ≡ records') × (r ≡ r')
step_unique x y = (
  no_second_part (λ (s : Step). s.records) x y,
  no_second_part (λ (s : Step). s.reached) x y,
)

-- `other_marks`: mark_cut_var
pub cut_of_unique :
    {records records' : List ℕ} {r r' : Marked} {meaning : CutOf}
    → cut_of records r ≡ meaning → cut_of records' r' ≡ meaning → (records ≡ records') × (r ≡ r')
cut_of_unique x y = (
  no_second_part (λ (c : CutOf). c.records) x y,
  no_second_part (λ (c : CutOf). c.marked) x y,
)

-- `resets`: increment_running_count, mark_safe_var_unconditionally
pub answer_unique :
    {records records' : List ℕ} {r r' : Option Refusal} {meaning : Answer}
    → answer records r ≡ meaning → answer records' r' ≡ meaning → (records ≡ records') × (r ≡ r')
answer_unique x y = (
  no_second_part (λ (a : Answer). a.records) x y,
  no_second_part (λ (a : Answer). a.refusal) x y,
)

-- ---- The mappings or a list, and the result

-- `resets`: reset_contents, reset
pub clearing_unique :
    {mappings mappings' : List ℕ} {r r' : Counters} {meaning : Clearing}
    → clearing mappings r ≡ meaning → clearing mappings' r' ≡ meaning → (mappings ≡ mappings') × (r ≡ r')
clearing_unique x y = (
  no_second_part (λ (c : Clearing). c.mappings) x y,
  no_second_part (λ (c : Clearing). c.counters) x y,
)

-- `resets`: add_reg_to_free_list
pub release_unique :
    {list list' : List ℕ} {r r' : Released} {meaning : Release}
    → release list r ≡ meaning → release list' r' ≡ meaning → (list ≡ list') × (r ≡ r')
release_unique x y = (
  no_second_part (λ (l : Release). l.list) x y,
  no_second_part (λ (l : Release). l.released) x y,
)

-- ---- Two tables, and the result

-- `evacuation`: evacuate_arg; `reserved_var`: mark_argument
pub evacuation_unique :
    {records records' mappings mappings' : List ℕ} {r r' : Reached} {meaning : Evacuation}
    → evacuation records mappings r ≡ meaning → evacuation records' mappings' r' ≡ meaning
    → (records ≡ records') × (mappings ≡ mappings') × (r ≡ r')
evacuation_unique x y = (
  no_second_part (λ (e : Evacuation). e.records) x y,
  no_second_part (λ (e : Evacuation). e.mappings) x y,
  no_second_part (λ (e : Evacuation). e.reached) x y,
)

-- `marks`: alloc_reg_to_var
pub register_placement_unique :
    {records records' mappings mappings' : List ℕ} {r r' : RegPlaced} {meaning : RegisterPlacement}
    → register_placement records mappings r ≡ meaning → register_placement records' mappings' r' ≡ meaning
    → (records ≡ records') × (mappings ≡ mappings') × (r ≡ r')
register_placement_unique x y = (
  no_second_part (λ (p : RegisterPlacement). p.records) x y,
  no_second_part (λ (p : RegisterPlacement). p.mappings) x y,
  no_second_part (λ (p : RegisterPlacement). p.placed) x y,
)

-- `other_marks`: mark_anon_var, mark_non_var
pub mark_of_unique :
    {records records' mappings mappings' : List ℕ} {r r' : Marked} {meaning : MarkOf}
    → mark_of records mappings r ≡ meaning → mark_of records' mappings' r' ≡ meaning
    → (records ≡ records') × (mappings ≡ mappings') × (r ≡ r')
mark_of_unique x y = (
  no_second_part (λ (m : MarkOf). m.records) x y,
  no_second_part (λ (m : MarkOf). m.mappings) x y,
  no_second_part (λ (m : MarkOf). m.marked) x y,
)

-- `resets`: reset_at_head
pub heading_unique :
    {records records' mappings mappings' : List ℕ} {r r' : Counters} {meaning : Heading}
    → heading records mappings r ≡ meaning → heading records' mappings' r' ≡ meaning
    → (records ≡ records') × (mappings ≡ mappings') × (r ≡ r')
heading_unique x y = (
  no_second_part (λ (h : Heading). h.records) x y,
  no_second_part (λ (h : Heading). h.mappings) x y,
  no_second_part (λ (h : Heading). h.counters) x y,
)

-- `freeing`: free_var, count_or_free
pub release_of_unique :
    {records records' list list' : List ℕ} {r r' : Released} {meaning : ReleaseOf}
    → release_of records list r ≡ meaning → release_of records' list' r' ≡ meaning
    → (records ≡ records') × (list ≡ list') × (r ≡ r')
release_of_unique x y = (
  no_second_part (λ (l : ReleaseOf). l.records) x y,
  no_second_part (λ (l : ReleaseOf). l.list) x y,
  no_second_part (λ (l : ReleaseOf). l.released) x y,
)

-- `branch_events`: open, arm
pub stack_of_unique :
    {rows rows' sets sets' : List ℕ} {r r' : Released} {meaning : Stack}
    → stack_of rows sets r ≡ meaning → stack_of rows' sets' r' ≡ meaning → (rows ≡ rows') × (sets ≡ sets') × (r ≡ r')
stack_of_unique x y = (
  no_second_part (λ (s : Stack). s.rows) x y,
  no_second_part (λ (s : Stack). s.sets) x y,
  no_second_part (λ (s : Stack). s.released) x y,
)

-- `clause_records`: populate
pub restricting_unique :
    {sets sets' meaning : VariableSets} → sets ≡ meaning → sets' ≡ meaning → sets ≡ sets'
restricting_unique x y = no_second x y

-- ---- More tables, and the result

-- `branch_events`: take, close
pub branch_of_unique :
    {records records' rows rows' sets sets' : List ℕ} {r r' : Released} {meaning : BranchStep}
    → branch_of records rows sets r ≡ meaning → branch_of records' rows' sets' r' ≡ meaning
    → (records ≡ records') × (rows ≡ rows') × (sets ≡ sets') × (r ≡ r')
branch_of_unique x y = (
  no_second_part (λ (b : BranchStep). b.records) x y,
  no_second_part (λ (b : BranchStep). b.rows) x y,
  no_second_part (λ (b : BranchStep). b.sets) x y,
  no_second_part (λ (b : BranchStep). b.released) x y,
)

-- `clause_records`: add_perm, add_temp
pub recording_unique :
    {records records' : List ℕ} {sets sets' : VariableSets} {r r' : Released} {meaning : Recording}
    → recording (rows records sets) r ≡ meaning → recording (rows records' sets') r' ≡ meaning
    → (records ≡ records') × (sets ≡ sets') × (r ≡ r')
recording_unique x y = (
  no_second_part (λ (t : Recording). t.tables.records) x y,
  no_second_part (λ (t : Recording). t.tables.sets) x y,
  no_second_part (λ (t : Recording). t.released) x y,
)

-- `mark_var`: mark_var
pub var_mark_unique :
    {records records' mappings mappings' list list' rows rows' branch_sets branch_sets' : List ℕ}
    {r r' : Marked} {meaning : VarMark}
    → var_mark records mappings list rows branch_sets r ≡ meaning
    → var_mark records' mappings' list' rows' branch_sets' r' ≡ meaning
    → (records ≡ records') × (mappings ≡ mappings') × (list ≡ list') × (rows ≡ rows') × (branch_sets ≡ branch_sets') × (r ≡ r')
var_mark_unique x y = (
  no_second_part (λ (m : VarMark). m.records) x y,
  no_second_part (λ (m : VarMark). m.mappings) x y,
  no_second_part (λ (m : VarMark). m.list) x y,
  no_second_part (λ (m : VarMark). m.rows) x y,
  no_second_part (λ (m : VarMark). m.branch_sets) x y,
  no_second_part (λ (m : VarMark). m.marked) x y,
)

-- ---- Every table, and a result of several parts

-- `debray_allocator`: act
pub answer_of_unique :
    {records records' mappings mappings' freed_registers freed_registers' freed_slots freed_slots' : List ℕ}
    {sets sets' : VariableSets} {branches branches' : BranchStack} {r r' : Acted} {meaning : StepAnswer}
    → answer_of records sets mappings freed_registers freed_slots branches r ≡ meaning
    → answer_of records' sets' mappings' freed_registers' freed_slots' branches' r' ≡ meaning
    → (records ≡ records') × (sets ≡ sets') × (mappings ≡ mappings') × (freed_registers ≡ freed_registers')
    × (freed_slots ≡ freed_slots') × (branches ≡ branches') × (r ≡ r')
answer_of_unique x y = (
  no_second_part (λ (a : StepAnswer). a.state.records) x y,
  no_second_part (λ (a : StepAnswer). a.state.sets) x y,
  no_second_part (λ (a : StepAnswer). a.state.mappings) x y,
  no_second_part (λ (a : StepAnswer). a.state.freed_registers) x y,
  no_second_part (λ (a : StepAnswer). a.state.freed_slots) x y,
  no_second_part (λ (a : StepAnswer). a.state.branches) x y,
  no_second_part acted_of x y,
)

-- ---- Records of equations: `Put` has `put_unique` in `printing`

-- `answers`: add_answer, add_end
pub added_unique :
    {scratch out : List ℕ} {at : ℕ} {text : List ℕ} {r r' : Adding} {scratch_after scratch_after' after after' : List ℕ}
    → Added scratch out at text r scratch_after after → Added scratch out at text r' scratch_after' after'
    → (r ≡ r') × (scratch_after ≡ scratch_after') × (after ≡ after')
added_unique x y = (
  ap₂ adding_of (put_unique x.put y.put).0 (no_second x.counted y.counted),
  no_second x.scratched y.scratched,
  (put_unique x.put y.put).1,
)
  where
    adding_of : ℕ → ℕ → Adding
    adding_of place length = record { place = place; length = length }

-- `temp_var_data`: add_use
pub use_added_unique :
    {use_sets use_counts : List ℕ} {v code : ℕ} {sets_after sets_after' counts_after counts_after' : List ℕ}
    → UseAdded use_sets use_counts v code sets_after counts_after → UseAdded use_sets use_counts v code sets_after' counts_after'
    → (sets_after ≡ sets_after') × (counts_after ≡ counts_after')
use_added_unique x y = (no_second x.sets y.sets, no_second x.counts y.counts)

-- `restricting_sets`: populate_restricting_sets
pub populated_unique :
    {chunks : List (Option ℕ)} {before after after' : VariableSets}
    → Populated chunks before after → Populated chunks before after' → after ≡ after'
populated_unique {chunks} {before} {after} {after'} x y =
    let same : variable_sets after.use_sets after.use_counts after.no_use after.conflict
    ≡ variable_sets after'.use_sets after'.use_counts after'.no_use after'.conflict =
    simp (x.use_sets, x.use_counts, x.no_uses, x.conflicts, y.use_sets, y.use_counts, y.no_uses, y.conflicts) in
    same

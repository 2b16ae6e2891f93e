-- Laws of resets: a head's arguments one at a time, what a reset keeps and clears, and when `safe` is refused.
use Rattle.std.specs.Prelude.{ℕ, ◌+◌, ◌*◌, ◌≤◌, ◌<◌, ◌≡◌, List, leb, length, get_or, drop}
use Rattle.std.proofs.Math.Path.{refl, sym}
use Rattle.std.proofs.Common.{ap, ◌∙◌, arith, add-one, length-take, drop_of_length-le, drop-cons, take_all, leb-true, ne_eqb}
use Rattle.std.proofs.Math.Bool.{true, false}
use Rattle.std.proofs.lemmas.List.{get_or-replicate}
use Rattle.std.proofs.Math.Seq.{get_or-take}
use Rattle.std.specs.Prelude.{if◌then◌else◌}
use Rattle.sizes.specs.Sizes.{variables, registers}
use Rattle.refusals.specs.Refusals.{accepted, refused_stop}
use Rattle.bit_set.specs.BitSet.{has}
use Rattle.bit_set.specs.BitSetLaws.{has-empty}
use Rattle.variable_records.specs.declared.VarSafetyStatus.{VarSafetyStatus}
use Rattle.variable_records.specs.declared.PermVarAllocation.TheVariants.{Done, Pending}
use Rattle.variable_records.specs.declared.VarAlloc.{VarAlloc}
use Rattle.variable_records.specs.declared.VarAlloc.TheVariants.{Temp, Perm}
use Rattle.variable_records.specs.Records.{place_of_alloc, placed_alloc, placed_at}
use Rattle.variable_records.specs.Rows.{row_cells, record_at, record_put}
use Rattle.variable_records.specs.TableLaws.{record_put-same}
use Rattle.shallow_temp_mappings.specs.Mappings.{unmapped, mapped_at}
use Rattle.branch_stack.specs.BranchStack.{current_branch}
use Rattle.allocator_state.specs.declared.Counters.{Counters}
use Rattle.record_marks.specs.RecordMarks.{safe_in}
use Rattle.resets.specs.Resets.{head_arguments, Heading, has_no_register, awaits_register, register_given, argument_placed, arguments_placed}
use Rattle.resets.specs.Resets.{no_mappings, contents_reset, whole_reset, answer, safe_marked}

-- ---- A head

-- a head that has no more arguments than there are registers is looked at whole
pub head_all : (arguments : List ℕ) → length arguments ≤ registers → head_arguments arguments ≡ arguments
head_all arguments h = take_all registers arguments h

pub head_few : (arguments : List ℕ) → length (head_arguments arguments) ≤ registers
head_few arguments = omega (arith, length-take registers arguments)

pub head_within : (arguments : List ℕ) → length (head_arguments arguments) ≤ length arguments
head_within arguments = omega (arith, length-take registers arguments)

-- The arguments from entry i on, the first of which is argument k. `whole` is what all arguments make.
module _ (arguments : List ℕ) (i k : ℕ) where
  pub placed_entry :
      (h : Heading) {next whole : Heading} → arguments_placed h k (drop i (head_arguments arguments)) ≡ whole
      → i < length (head_arguments arguments) → next ≡ argument_placed h k (get_or arguments i 0)
      → arguments_placed next (k + 1) (drop (i + 1) (head_arguments arguments)) ≡ whole
  unfolding arguments_placed
  placed_entry h {next} {whole} e l made =
      let few = head_few arguments in
      let entry = get_or-take registers arguments i 0 (omega arith) in
      rw (add-one i, made, sym entry) (sym (ap (arguments_placed h k) (drop-cons (head_arguments arguments) i 0 l)) ∙ e)

  pub placed_end :
      {h whole : Heading} → arguments_placed h k (drop i (head_arguments arguments)) ≡ whole
      → length (head_arguments arguments) ≤ i → h ≡ whole
  unfolding arguments_placed
  placed_end {h} {whole} e l =
      sym (ap (arguments_placed h k) (drop_of_length-le (head_arguments arguments) {i = i} l)) ∙ e

-- rule 14.1: a variable that occurs twice gets only its first argument's register: after that it waits for none
module _ (k : ℕ) (positive : 0 < k) where
  placed_has : (allocation : VarAlloc) → has_no_register (place_of_alloc (placed_alloc allocation k)) ≡ false
  placed_has (Temp context register safety to_perm) = ne_eqb k 0 (omega arith)
  placed_has (Perm slot allocation) = refl

  placed_waits :
      (records : List ℕ) (v : ℕ) → length records ≡ variables * row_cells
      → awaits_register (record_put records v (placed_at (record_at records v) k)) v ≡ false
  unfolding awaits_register
  placed_waits records v size =
      let e = record_put-same records v (placed_at (record_at records v) k) size in
      rw (e, placed_has (record_at records v).allocation) (elim (leb variables v) as (λ t. (if t then false else false) ≡ false) [ true ↦ refl | false ↦ refl ])

  pub placed_once :
      (h : Heading) (v : ℕ) → length h.records ≡ variables * row_cells → awaits_register (argument_placed h k v).records v ≡ false
  unfolding argument_placed
  placed_once h v size =
      elim (awaits_register h.records v) as
      (λ t. awaits_register h.records v ≡ t → awaits_register (if t then register_given h k v else h).records v ≡ false) [
        | true ↦ λ e. placed_waits h.records v size
        | false ↦ λ e. e
      ]
      refl

-- ---- Resets

-- rule 14.8: what `reset` leaves as it is
pub reset_keeps :
    (c : Counters)
    → ((whole_reset c).counters.first_freed_slot ≡ c.first_freed_slot)
    × ((whole_reset c).counters.freed_slots ≡ c.freed_slots)
    × ((whole_reset c).counters.arg_c ≡ c.arg_c)
    × ((whole_reset c).counters.temp_lb ≡ c.temp_lb)
    × ((whole_reset c).counters.arity ≡ c.arity)
    × ((whole_reset c).counters.open_branches ≡ c.open_branches)
    × ((whole_reset c).counters.in_tail_position ≡ c.in_tail_position)
    × ((whole_reset c).counters.records ≡ c.records)
    × ((whole_reset c).counters.events_seen ≡ c.events_seen)
unfolding whole_reset contents_reset
reset_keeps c = (refl, refl, refl, refl, refl, refl, refl, refl, refl)

-- and what it empties: the mapping, the set of registers in use and the freed registers; the next slot is 1
pub reset_clears :
    (c : Counters)
    → ((whole_reset c).mappings ≡ no_mappings)
    × ((r : ℕ) → has (whole_reset c).counters.in_use r ≡ false)
    × ((whole_reset c).counters.freed_registers ≡ 0)
    × ((whole_reset c).counters.perm_lb ≡ 1)
unfolding whole_reset contents_reset
reset_clears c = (refl, has-empty, refl, refl)

pub none_mapped : (r : ℕ) → mapped_at no_mappings r ≡ unmapped
unfolding mapped_at
none_mapped r =
    elim (leb r registers) as (λ t. leb r registers ≡ t → (if t then get_or no_mappings r 0 else unmapped) ≡ unmapped) [
      | true ↦ λ e. get_or-replicate (registers + 1) r unmapped 0 (omega (arith, leb-true r registers e))
      | false ↦ λ e. refl
    ]
    refl

-- rule 14.9: `contents` empties the same, and the next slot stays
pub contents_keep_slots : (c : Counters) → (contents_reset c).counters.perm_lb ≡ c.perm_lb
unfolding contents_reset
contents_keep_slots c = refl

-- ---- `safe`

module _ (records rows : List ℕ) (opened v slot : ℕ) where
  -- rule 4.4: of a variable that is Pending it is refused
  pub safe_pending :
      (record_at records v).allocation ≡ Perm slot Pending → safe_marked records rows opened v ≡ answer records refused_stop
  unfolding safe_marked
  safe_pending e = simp e

  -- rule 14.4: of one that is Done it is not, and both safeties become unneeded in the current branch
  pub safe_done :
      (shallow deep : VarSafetyStatus) → (record_at records v).allocation ≡ Perm slot (Done shallow deep)
      → safe_marked records rows opened v ≡ answer (record_put records v (safe_in (record_at records v) slot (current_branch rows opened))) accepted
  unfolding safe_marked
  safe_done shallow deep e = simp e

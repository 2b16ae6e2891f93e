-- The numbers of a line that nothing refused before: its uses are of good registers, and so is a register that is freed.
use Rattle.std.specs.Prelude.{ℕ, ◌≡◌, true, ◌&&◌, leb}
use mathlib.Core.List.{List, [], ◌∷◌}
use Rattle.std.proofs.Math.Dec.{ltb}
use Rattle.notation.specs.ChoiceLaws.{both_true, either, by_test}
use Rattle.sizes.specs.Sizes.{freed_registers, is_register, is_count}
use Rattle.sizes.specs.SizesLaws.{register_exactly}
use Rattle.forms.specs.declared.GenContext.{GenContext}
use Rattle.temp_var_data.specs.Uses.{register_of, context_of}
use Rattle.allocator_state.specs.declared.Counters.{Counters}
use Rattle.freeing.specs.Freeing.{Release}
use Rattle.resets.specs.Resets.{register_freed}
use Rattle.events.specs.declared.Entries.TheVariants.{Uses}
use Rattle.events.specs.declared.Event.{Event}
use Rattle.events.specs.Events.{is_use, is_context, all_fit, context_fits, in_size, is_record, refusal_by_size, refusal_before}
use Rattle.invariants.specs.Lists.{All, all_set}
use Rattle.invariants.specs.Kept.{Wanted}
use Rattle.invariants.specs.OfEvacuation.{GoodUses}
use Rattle.refusals.specs.Refusals.{is_refused}
use Rattle.refusals.specs.declared.Refusal.{Refusal}
use Rattle.std.specs.Prelude.{Option, false}
use Rattle.std.proofs.Common.{true≢false}

-- ---- A line that is not refused is in size

module _ (c : Counters) (event : Event) (list : List ℕ) where
  unrefused_by_size : is_refused (refusal_by_size c event list) ≡ false → in_size c.records event list ≡ true
  unfolding refusal_by_size
  unrefused_by_size =
      by_test (λ (refusal : Option Refusal). is_refused refusal ≡ false → in_size c.records event list ≡ true) (in_size c.records event list) (λ e h. e)
      (λ e h. absurd (true≢false h))

  pub unrefused_in_size : is_refused (refusal_before c event list) ≡ false → in_size c.records event list ≡ true
  unfolding refusal_before
  unrefused_in_size =
      either (λ (refusal : Option Refusal). is_refused refusal ≡ false → in_size c.records event list ≡ true) (is_record event && ltb 0 c.events_seen)
      (λ h. absurd (true≢false h))
      unrefused_by_size

module _ (k : Wanted) where
  register_good : (r : ℕ) → is_register r ≡ true → k.Good r
  register_good r e = k.small r ((register_exactly r).0 e).1

  -- ---- `temp`

  use_good : (code : ℕ) → is_use code ≡ true → k.Good (register_of code)
  unfolding is_use
  use_good code e = register_good (register_of code) (both_true (is_register (register_of code)) (is_context (context_of code)) e).0

  fitting_good : (records : ℕ) (codes : List ℕ) → all_fit Uses records codes ≡ true → GoodUses k codes
  unfolding all_fit
  fitting_good records [] e = tt
  fitting_good records (code ∷ codes) e =
      let b = both_true (is_use code) (all_fit Uses records codes) e in (use_good code b.0, fitting_good records codes b.1)

  pub temp_uses_good :
      (records : ℕ) (context : GenContext) (occurrences : ℕ) (codes : List ℕ)
      → (context_fits context && (is_count occurrences && all_fit Uses records codes)) ≡ true → GoodUses k codes
  temp_uses_good records context occurrences codes e =
      let counted = both_true (context_fits context) (is_count occurrences && all_fit Uses records codes) e in
      fitting_good records codes (both_true (is_count occurrences) (all_fit Uses records codes) counted.1).1

  -- ---- `give`

  pub freed_good :
      (c : Counters) (list : List ℕ) (r : ℕ) → is_register r ≡ true → All k.Good list → All k.Good (register_freed c list r).list
  unfolding register_freed
  freed_good c list r e all =
      either (λ (a : Release). All k.Good a.list) (leb freed_registers c.freed_registers) all
      (all_set k.Good list c.freed_registers r all (register_good r e))

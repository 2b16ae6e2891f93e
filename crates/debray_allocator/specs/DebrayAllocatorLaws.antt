-- A line, step by step: which event it is, what was called for it, and what refuses it.
use Rattle.std.specs.Prelude.{ℕ, ◌≡◌, true, false, List, Option}
use Rattle.std.proofs.Math.Path.{refl, ap}
use Rattle.std.proofs.Common.{sym, ◌∙◌}
use Rattle.refusals.specs.declared.Refusal.{Refusal}
use Rattle.refusals.specs.Refusals.{is_refused}
use Rattle.events.specs.declared.Event.{Event}
use Rattle.events.specs.Events.{refusal_before}
use Rattle.allocator_state.specs.declared.Counters.{Counters}
use Rattle.restricting_sets.specs.declared.VariableSets.{VariableSets}
use Rattle.branch_stack.specs.declared.BranchStack.{BranchStack}
use Rattle.debray_allocator.specs.declared.State.{State}
use Rattle.debray_allocator.specs.declared.Acted.{Acted}
use Rattle.debray_allocator.specs.declared.Answer.{Answer}
use Rattle.debray_allocator.specs.DebrayAllocator.{by_refusal, answer_of, with_counters, carried_out, seen_after, acted_with, seen_in, refused_with, acted, unless_refused, stepped}

-- an event by its name, and what the call for it makes
pub carried :
    {X : Type 0} (into : State → X → Answer) (s : State) (list records : List ℕ) (sets : VariableSets) (mappings freed_registers freed_slots : List ℕ) (branches : BranchStack)
    {event named : Event} {a b : Acted} {made meant : X}
    → event ≡ named
    → a ≡ b
    → made ≡ meant
    → answer_of records sets mappings freed_registers freed_slots branches b ≡ into s made
    → into s meant ≡ carried_out s named list
    → answer_of records sets mappings freed_registers freed_slots branches a ≡ carried_out s event list
carried into s list records sets mappings freed_registers freed_slots branches told wrapped called before after =
    ap (answer_of records sets mappings freed_registers freed_slots branches) wrapped ∙ before ∙ ap (into s) called ∙ after ∙ sym (ap (λ e. carried_out s e list) told)

module _ (s : State) (event : Event) (list : List ℕ) where
  refused_with_lem : (refusal : Option Refusal) → with_counters s (by_refusal s.counters refusal) ≡ refused_with s refusal
  unfolding refused_with
  refused_with_lem refusal = refl

  pub acted-refused :
      {refusal : Option Refusal} {a : Acted}
      → refusal ≡ refusal_before s.counters event list
      → is_refused refusal ≡ true
      → a ≡ by_refusal s.counters refusal
      → with_counters s a ≡ acted s event list
  unfolding acted
  acted-refused {refusal} e h refused = ap (with_counters s) refused ∙ refused_with_lem refusal ∙ simp (← e, h)

  pub acted-carried :
      {refusal : Option Refusal} {c : Counters} (b : Answer)
      → refusal ≡ refusal_before s.counters event list
      → is_refused refusal ≡ false
      → b ≡ carried_out s event list
      → c ≡ seen_after b.state.counters event
      → with_counters b.state (acted_with c b) ≡ acted s event list
  unfolding acted
  acted-carried b e h made seen =
      ap (λ c. with_counters b.state (acted_with c b)) seen ∙ ap (λ b. seen_in b event) made ∙ simp (← e, h)

  -- a refused line leaves the state as it was; any other is answered as it is
  pub stepped-refused :
      (b : Answer) → b ≡ acted s event list → is_refused b.refusal ≡ true
      → with_counters s (by_refusal s.counters b.refusal) ≡ stepped s event list
  unfolding stepped unless_refused
  stepped-refused b e h = refused_with_lem b.refusal ∙ simp (← e, h)

  pub stepped-accepted : (b : Answer) → b ≡ acted s event list → is_refused b.refusal ≡ false → b ≡ stepped s event list
  unfolding stepped unless_refused
  stepped-accepted b e h = simp (← e, h)

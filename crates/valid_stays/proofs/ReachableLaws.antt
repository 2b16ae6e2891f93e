-- What a clause can become: rules 4.11, 6.2. Each such state is valid (rule 17.7), and its tables have their lengths.
use Rattle.std.specs.Prelude.{ℕ, ◌≡◌, true, List}
use Rattle.notation.specs.ChoiceLaws.{by_test}
use Rattle.refusals.specs.Refusals.{accepted, is_refused}
use Rattle.refusals.specs.RefusalsLaws.{not_refused}
use Rattle.events.specs.declared.Event.{Event}
use Rattle.debray_allocator.specs.declared.State.{State}
use Rattle.debray_allocator.specs.declared.Answer.{Answer}
use Rattle.debray_allocator.specs.State.{fresh_state}
use Rattle.debray_allocator.specs.DebrayAllocator.{refused_with, acted, unless_refused, stepped}
use Rattle.valid_states.specs.ValidStates.{is_valid}
use Rattle.valid_states.specs.ValidStatesLaws.{fresh_valid}
use Rattle.valid_stays.specs.Fits.{Full}
use Rattle.valid_stays.proofs.ValidStays.{valid_stays_lem, lengths_stay, full_fresh}
use Rattle.valid_stays.specs.Reachable.{Reachable, fresh, after, Sound}

-- what holds of a fresh clause, and still holds after every line that is not refused, holds of every reachable state
module _
    (P : State → Type 0) (first : P fresh_state)
    (stays :
    (s : State) → Reachable s → P s → (event : Event) (list : List ℕ) → (stepped s event list).refusal ≡ accepted
    → P (stepped s event list).state) where
  pub reachable_induction : {s : State} → Reachable s → P s
  reachable_induction fresh = first
  reachable_induction (after {s} r event list good) = stays s r (reachable_induction r) event list good

sound : {s : State} → Reachable s → Sound s
sound =
    reachable_induction Sound (full_fresh, fresh_valid)
    (λ s r before event list good.
    (lengths_stay s before.0 before.1 event list, valid_stays_lem s before.0 before.1 event list))

pub reachable_full : {s : State} → Reachable s → Full s
reachable_full r = (sound r).0

pub reachable_valid : {s : State} → Reachable s → is_valid s ≡ true
reachable_valid r = (sound r).1

-- a refused line leaves the state as it was (rule 1.3), so what any line leaves of a reachable state is reachable
pub reachable_step : {s : State} → Reachable s → (event : Event) (list : List ℕ) → Reachable (stepped s event list).state
unfolding stepped unless_refused refused_with
reachable_step {s} r event list =
    let refusal = (acted s event list).refusal in
    by_test (λ (a : Answer). (a.refusal ≡ accepted → Reachable a.state) → Reachable a.state) (is_refused refusal)
    (λ refused taken. r)
    (λ e taken. taken (not_refused refusal e))
    (after r event list)

-- What a clause can become: rules 4.11, 6.2. Each such state is valid (rule 17.7), and its tables have their lengths.
use Rattle.std.specs.Prelude.{ℕ, ◌≡◌, true, List}
use Rattle.refusals.specs.Refusals.{accepted}
use Rattle.events.specs.declared.Event.{Event}
use Rattle.debray_allocator.specs.declared.State.{State}
use Rattle.debray_allocator.specs.State.{fresh_state}
use Rattle.debray_allocator.specs.DebrayAllocator.{stepped}
use Rattle.valid_states.specs.ValidStates.{is_valid}
use Rattle.valid_stays.specs.Fits.{Full}

-- a state is reachable if it is a fresh clause's (rule 6.2), or what a line that is not refused leaves of a reachable one
-- (rules 4.11, 6.1)
pub data Reachable : State → Type 0 where
  fresh : Reachable fresh_state
  after :
      {s : State} → Reachable s → (event : Event) (list : List ℕ) → (stepped s event list).refusal ≡ accepted
      → Reachable (stepped s event list).state

-- every reachable state is valid, and its tables have the lengths that their types give them
abbrev pub Sound : State → Type 0
Sound s = (Full s) × (is_valid s ≡ true)

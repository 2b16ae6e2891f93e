-- Rule 17.7: a valid state stays valid, after a line that is taken and after one that is refused. A fresh clause is valid.
use Rattle.std.specs.Prelude.{ℕ, ◌≡◌, refl, true, List}
use Rattle.events.specs.declared.Event.{Event}
use Rattle.debray_allocator.specs.declared.State.{State}
use Rattle.debray_allocator.specs.State.{fresh_state}
use Rattle.debray_allocator.specs.DebrayAllocator.{stepped}
use Rattle.valid_states.specs.ValidStates.{is_valid}
use Rattle.valid_stays.specs.Fits.{Full}
use Rattle.valid_stays.proofs.OfSteps.{Fitting, stepped-fits}
use Rattle.valid_stays.proofs.FromTests.{kinds_of, valid_small, valid_fits}
use Rattle.valid_stays.proofs.ToTests.{fits_valid, fits_full}

module _ (s : State) (full : Full s) (valid : is_valid s ≡ true) (event : Event) (list : List ℕ) where
  after : Fitting (stepped s event list).state
  after = stepped-fits s (kinds_of s (valid_small s valid), valid_fits s full valid) event list

  -- the tests pass again
  pub valid_stays_lem : is_valid (stepped s event list).state ≡ true
  valid_stays_lem = fits_valid (stepped s event list).state after.0 after.1

  -- and every table keeps its length
  pub lengths_stay : Full (stepped s event list).state
  lengths_stay = fits_full (stepped s event list).state after.0 after.1

-- ---- A fresh clause is valid (valid_states: fresh_valid), and its tables have their lengths

pub full_fresh : Full fresh_state
full_fresh =
    record {
      records = refl;
      use_sets = refl;
      use_counts = refl;
      no_use = refl;
      conflict = refl;
      mappings = refl;
      given = refl;
      queue = refl;
      branch_rows = refl;
      branch_sets = refl;
    }

-- The entries of a list, one at a time.
use Rattle.std.specs.Prelude.{ℕ, ◌+◌, ◌≤◌, ◌<◌, ◌≡◌, Bool, true, false, List, length, get_or, drop}
use Rattle.std.proofs.Common.{add-one, drop_of_length-le}
use Rattle.std.proofs.Math.Seq.{drop-cons}
use Rattle.events.specs.declared.Entries.{Entries}
use Rattle.events.specs.Events.{entry_fits, all_fit}

module _ (entries : Entries) (records : ℕ) (list : List ℕ) (i : ℕ) where
  pub fits_next :
      {fits : Bool}
      → i < length list
      → fits ≡ entry_fits entries records (get_or list i 0)
      → fits ≡ true
      → all_fit entries records (drop i list) ≡ all_fit entries records (drop (i + 1) list)
  unfolding all_fit
  fits_next h e t = rw (add-one i, drop-cons list i 0 h) (simp (← e, t))

  pub fits_not :
      {fits : Bool}
      → i < length list
      → fits ≡ entry_fits entries records (get_or list i 0)
      → fits ≡ false
      → all_fit entries records (drop i list) ≡ false
  unfolding all_fit
  fits_not h e t = rw (drop-cons list i 0 h) (simp (← e, t))

  pub fits-end : length list ≤ i → all_fit entries records (drop i list) ≡ true
  unfolding all_fit
  fits-end h = rw (drop_of_length-le list {i = i} h)

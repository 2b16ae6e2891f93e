-- Laws of sets that are collected use by use.
use Rattle.std.specs.Prelude.{ℕ, suc, ◌≤◌, ◌<◌, ◌≡◌, Bool, ◌&&◌, ◌||◌, List, eqb, length, get_or, take}
use Rattle.std.proofs.Common.{sym, ap, ◌∙◌, take_all}
use Rattle.std.specs.Prelude.{if◌then◌else◌}
use Rattle.sizes.specs.Sizes.{registers}
use Rattle.bit_set.specs.BitSet.{empty_set, inserted}
use Rattle.bit_set.specs.BitSetLaws.{has-empty, set-empty}
use Rattle.bit_set.specs.Collected.{collected}
use Rattle.bit_set.specs.CollectedLaws.{collected-is, collected-same, inserted_if_lem}
use Rattle.temp_var_data.specs.Lists.{any}
use Rattle.temp_var_data.specs.ListLaws.{any_passed}

-- `gives r code`: the use gives the register
module _ (gives : ℕ → ℕ → Bool) (use_set : List ℕ) where
  -- the registers that the first i uses give
  unfoldable pub given_first : ℕ → ℕ
  given_first i = collected (λ r. any (gives r) (take i use_set))

  pub given_none : empty_set ≡ given_first 0
  unfolding given_first any
  given_none = collected-is empty_set _ set-empty (λ r h. has-empty r)

  -- a use that gives at most one register
  pub given_next :
      (i register : ℕ) (t : Bool) → i < length use_set
      → ((r : ℕ) → r ≤ registers → gives r (get_or use_set i 0) ≡ (t && eqb r register))
      → (if t then inserted (given_first i) register else given_first i) ≡ given_first (suc i)
  unfolding given_first
  given_next i register t h e =
      inserted_if_lem (λ r. any (gives r) (take i use_set)) register t
      ∙ collected-same _ _
      (λ r k. rw (any_passed (gives r) use_set i h) (ap (λ (b : Bool). any (gives r) (take i use_set) || b) (sym (e r k))))

  pub given_all : (i : ℕ) → length use_set ≤ i → given_first i ≡ collected (λ r. any (gives r) use_set)
  unfolding given_first
  given_all i h = rw (take_all i use_set h)

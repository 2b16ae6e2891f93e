-- Laws of freed registers, one at a time.
use Rattle.std.specs.Prelude.{Some, None, ℕ, suc, ◌-◌, ◌%◌, ◌<◌, ◌≤◌, ◌≡◌, true, false, List, get_or}
use Rattle.std.proofs.Math.Path.{ap}
use Rattle.std.proofs.Common.{◌∙◌, arith}
use Rattle.sizes.specs.Sizes.{freed_registers}
use Rattle.allocator_state.specs.declared.Counters.{Counters}
use Rattle.choice.specs.Choice.{in_use}
use Rattle.allocation.specs.Allocation.{popped}

module _ (c : Counters) (list : List ℕ) (left : ℕ) (h : 0 < left) where
  one_less : left ≡ suc (left - 1)
  one_less = omega arith

  pub popped-taken :
      in_use c (get_or list ((left - 1) % freed_registers) 0) ≡ false
      → popped c list left ≡ record { left = left - 1; chosen = Some (get_or list ((left - 1) % freed_registers) 0) }
  unfolding popped
  popped-taken e = ap (popped c list) one_less ∙ simp e

  pub popped_passed :
      in_use c (get_or list ((left - 1) % freed_registers) 0) ≡ true → popped c list left ≡ popped c list (left - 1)
  unfolding popped
  popped_passed e = ap (popped c list) one_less ∙ simp e

pub popped-none :
    (c : Counters) (list : List ℕ) (left : ℕ) → left ≤ 0 → popped c list left ≡ record { left = left; chosen = None }
unfolding popped
popped-none c list left h =
    let e : left ≡ 0 = omega arith in
    rw e

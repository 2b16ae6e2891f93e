-- `event_sheets::max_reg_allocated`: the greater counter is the one that the test takes. Assumes nothing.
use Prim.Native.Nat.{ℕ, ◌≤◌, max}
use Rattle.std.specs.Prelude.{◌≡◌, if◌then◌else◌}
use Rattle.std.proofs.Math.Path.{refl}
use Rattle.std.proofs.Math.Bool.{true, false}
use Rattle.std.proofs.Math.Dec.{leb}
use Rattle.std.proofs.Math.Nat.{max-eq_left, max-eq_right}
use Rattle.std.proofs.Common.{◌∙◌, arith}
use borrow.Author.Tests.{leb-true, leb-false}
use Rattle.event_sheets.specs.EventSheets.{max_reg_allocated}
use Rattle.event_sheets.proofs.max_reg_allocated.Goals as goal

greater : (a t : ℕ) → max a t ≡ (if leb t a then a else t)
greater a t =
    elim (leb t a) as
    (λ b. leb t a ≡ b → max a t ≡ (if b then a else t)) [
      | true ↦ λ e. max-eq_left (leb-true _ _ e)
      | false ↦ λ e. max-eq_right (omega (arith, leb-false _ _ e))
    ]
    refl

pub returns : goal.returns
unfolding max_reg_allocated
returns c = c.max.ensures ∙ greater c.args.counters.arg_c c.args.counters.temp_lb

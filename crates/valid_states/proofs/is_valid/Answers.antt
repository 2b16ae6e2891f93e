-- `valid_states::is_valid`: the tests joined from the first on are those of the definition, joined from the last on.
-- Assumes nothing.
use Rattle.std.specs.Prelude.{◌≡◌, refl, Bool, true, false, ◌&&◌}
use Rattle.std.proofs.Common.{ap, ◌∙◌}
use Rattle.valid_states.specs.ValidStates.{is_valid}
use Rattle.valid_states.specs.ValidStatesLaws.{passed, stopped}
use Rattle.valid_states.proofs.is_valid.Goals as goal
use Rattle.valid_states.proofs.is_valid.Goals.{then-counters_fit, else-counters_fit, then-variables_fit, else-variables_fit, then-mappings_fit, else-mappings_fit, then-freed_registers_fit, else-freed_registers_fit}

regrouped : (a b c d e f : Bool) → (((((a && b) && c) && d) && e) && f) ≡ (a && (b && (c && (d && (e && f)))))
regrouped false b c d e f = refl
regrouped true false c d e f = refl
regrouped true true false d e f = refl
regrouped true true true false e f = refl
regrouped true true true true false f = refl
regrouped true true true true true f = refl

-- each test joins those before it
joined_up :
    (a b c d e f : Bool) {v w x y z r : Bool}
    → v ≡ a → w ≡ (v && b) → x ≡ (w && c) → y ≡ (x && d) → z ≡ (y && e) → r ≡ (z && f)
    → r ≡ (a && (b && (c && (d && (e && f)))))
joined_up a b c d e f g h i j k l =
    l
    ∙ ap (λ (t : Bool). t && f) (k ∙ ap (λ (t : Bool). t && e) (j ∙ ap (λ (t : Bool). t && d) (i ∙ ap (λ (t : Bool). t && c) (h ∙ ap (λ (t : Bool). t && b) g))))
    ∙ regrouped a b c d e f

failed : {value first : Bool} (second : Bool) → value ≡ first → first ≡ false → value ≡ (first && second)
failed second e h = e ∙ h ∙ stopped second h

pub returns-then-freed_slots_fit : goal.returns-then-freed_slots_fit
unfolding is_valid
returns-then-freed_slots_fit c =
    joined_up _ _ _ _ _ _ c.counters_fit.ensures
    (elim c.if-counters_fit.branch [
      | then-counters_fit w ↦ passed w.if-counters_fit.true (w.value-is ∙ w.variables_fit.ensures)
      | else-counters_fit w ↦ failed _ w.value-is w.if-counters_fit.false
    ])
    (elim c.if-variables_fit.branch [
      | then-variables_fit w ↦ passed w.if-variables_fit.true (w.value-is ∙ w.mappings_fit.ensures)
      | else-variables_fit w ↦ failed _ w.value-is w.if-variables_fit.false
    ])
    (elim c.if-mappings_fit.branch [
      | then-mappings_fit w ↦ passed w.if-mappings_fit.true (w.value-is ∙ w.freed_registers_fit.ensures)
      | else-mappings_fit w ↦ failed _ w.value-is w.if-mappings_fit.false
    ])
    (elim c.if-freed_registers_fit.branch [
      | then-freed_registers_fit w ↦ passed w.if-freed_registers_fit.true (w.value-is ∙ w.freed_slots_fit.ensures)
      | else-freed_registers_fit w ↦ failed _ w.value-is w.if-freed_registers_fit.false
    ])
    (passed c.if-freed_slots_fit.true c.branches_fit.ensures)

pub returns-else-freed_slots_fit : goal.returns-else-freed_slots_fit
unfolding is_valid
returns-else-freed_slots_fit c =
    joined_up _ _ _ _ _ _ c.counters_fit.ensures
    (elim c.if-counters_fit.branch [
      | then-counters_fit w ↦ passed w.if-counters_fit.true (w.value-is ∙ w.variables_fit.ensures)
      | else-counters_fit w ↦ failed _ w.value-is w.if-counters_fit.false
    ])
    (elim c.if-variables_fit.branch [
      | then-variables_fit w ↦ passed w.if-variables_fit.true (w.value-is ∙ w.mappings_fit.ensures)
      | else-variables_fit w ↦ failed _ w.value-is w.if-variables_fit.false
    ])
    (elim c.if-mappings_fit.branch [
      | then-mappings_fit w ↦ passed w.if-mappings_fit.true (w.value-is ∙ w.freed_registers_fit.ensures)
      | else-mappings_fit w ↦ failed _ w.value-is w.if-mappings_fit.false
    ])
    (elim c.if-freed_registers_fit.branch [
      | then-freed_registers_fit w ↦ passed w.if-freed_registers_fit.true (w.value-is ∙ w.freed_slots_fit.ensures)
      | else-freed_registers_fit w ↦ failed _ w.value-is w.if-freed_registers_fit.false
    ])
    (failed _ refl c.if-freed_slots_fit.false)

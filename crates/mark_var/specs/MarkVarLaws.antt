-- A mark, step by step: what was not refused goes on, and so refusals come in the order of rule 12.12.
use Rattle.std.specs.Prelude.{ℕ, ◌≡◌, Bool, true, false, List}
use Rattle.std.proofs.Common.{ap, sym, ◌∙◌}
use Rattle.refusals.specs.Refusals.{is_refused}
use Rattle.registers.specs.declared.RegType.{RegType}
use Rattle.registers.specs.declared.RegType.TheVariants.{Temp as TempRegister}
use Rattle.restricting_sets.specs.declared.VariableSets.{VariableSets}
use Rattle.evacuation.specs.Evacuation.{Evacuation}
use Rattle.marks.specs.Marks.{RegisterPlacement}
use Rattle.reserved_var.specs.declared.Mark.{Mark}
use Rattle.mark_var.specs.MarkVar.{Marking, VarMark, finished, reserved_after, with_place, marked_at, new_temporary_after}

module _ (list rows branch_sets : List ℕ) (mark : Mark) (place : RegType) (is_new : Bool) where
  at_once :
      (e : Evacuation)
      → is_refused e.reached.refusal ≡ false
      → reserved_after e list rows branch_sets mark place is_new
      ≡ finished
      e.reached.counters
      e.records
      e.mappings
      list
      rows
      branch_sets
      mark.variable
      mark.context
      place
      is_new
      e.reached.code
  unfolding reserved_after
  at_once e unrefused = simp unrefused

  pub reserved_finished :
      {e instructed : Evacuation} {m : Marking}
      → e ≡ instructed
      → is_refused e.reached.refusal ≡ false
      → m
      ≡ finished
      e.reached.counters
      e.records
      e.mappings
      list
      rows
      branch_sets
      mark.variable
      mark.context
      place
      is_new
      e.reached.code
      → m ≡ reserved_after instructed list rows branch_sets mark place is_new
  reserved_finished {e} h unrefused made =
      made ∙ sym (at_once e unrefused) ∙ ap (λ e. reserved_after e list rows branch_sets mark place is_new) h

-- a mark with its place
pub marked-with_place :
    {m reserved : Marking} (place : RegType) → m ≡ reserved → with_place m place ≡ with_place reserved place
marked-with_place place h = ap (λ m. with_place m place) h

module _ (s : VariableSets) (list rows branch_sets : List ℕ) (mark : Mark) where
  placed_at_once :
      (p : RegisterPlacement)
      → is_refused p.placed.reached.refusal ≡ false
      → new_temporary_after p s list rows branch_sets mark
      ≡ marked_at
      p.placed.reached.counters
      p.records
      p.mappings
      s
      list
      rows
      branch_sets
      mark
      (TempRegister p.placed.place)
      true
      p.placed.reached.code
  unfolding new_temporary_after
  placed_at_once p unrefused = simp unrefused

  -- a new temporary that has a register is marked there
  pub placed_marked :
      {p placed : RegisterPlacement} {m : VarMark}
      → p ≡ placed
      → is_refused p.placed.reached.refusal ≡ false
      → m
      ≡ marked_at
      p.placed.reached.counters
      p.records
      p.mappings
      s
      list
      rows
      branch_sets
      mark
      (TempRegister p.placed.place)
      true
      p.placed.reached.code
      → m ≡ new_temporary_after placed s list rows branch_sets mark
  placed_marked {p} h unrefused made =
      made ∙ sym (placed_at_once p unrefused) ∙ ap (λ p. new_temporary_after p s list rows branch_sets mark) h

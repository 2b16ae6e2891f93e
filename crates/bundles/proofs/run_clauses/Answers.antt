-- `bundles::run_clauses`: between two clauses the texts of those that are left, behind what stands so far, make the whole. The measure is
-- the length of what is left. Assumes nothing.
use mathlib.Core.Path.{refl, sym, ◌∙◌}
use native.Mathlib.Omega.{arith}
use Rattle.bundles.specs.RunningLaws.{going-first, going-refused, lines_short, count_short, next_shorter, going_on_lem, going-last}
use Rattle.bundles.proofs.run_clauses.Goals as goal

-- a pair as the two clauses
both : {A B : Type 0} → A × B → record { value : A; fronts : B }
both w = record { value = w.0; fronts = w.1 }

pub loop-rest-init : goal.loop-rest-init
loop-rest-init c = going-first _ _ c.requires.fits_a_sheet c.requires.ends_a_line c.requires.begins_a_clause

pub shape_of-out-then-not-is : goal.shape_of-out-then-not-is
shape_of-out-then-not-is c = c.loop-rest.invariant.room

pub returns-then-not-is : goal.returns-then-not-is
returns-then-not-is c = both (
    going-refused c.loop-rest.invariant c.loop-rest-test.true c.end_of-end.ensures c.part_before.ensures (sym c.is.ensures ∙ c.if-not-is.true)
    )

pub add_clause-length-requires : goal.add_clause-length-requires
add_clause-length-requires c = omega (arith, lines_short c.loop-rest.invariant c.loop-rest-test.true c.end_of-end.ensures c.part_before.ensures (sym c.is.ensures ∙ c.if-not-is.false) c.part_after-behind.ensures c.end_of_clause-end_of_lines.ensures c.part_before-in-loop-rest.ensures refl, c.loop-rest.invariant.short)

pub overflow_add-length : goal.overflow_add-length
overflow_add-length c = omega (arith, count_short c.loop-rest.invariant c.loop-rest-test.true c.end_of-end.ensures c.part_before.ensures (sym c.is.ensures ∙ c.if-not-is.false) c.part_after-behind.ensures c.end_of_clause-end_of_lines.ensures c.part_before-in-loop-rest.ensures refl c.add_clause-length.ensures.value)

pub loop-rest-smaller : goal.loop-rest-smaller
loop-rest-smaller c = next_shorter c.loop-rest.invariant c.loop-rest-test.true c.end_of-end.ensures c.part_before.ensures (sym c.is.ensures ∙ c.if-not-is.false) c.part_after-behind.ensures c.end_of_clause-end_of_lines.ensures c.part_before-in-loop-rest.ensures c.rest_after-next.ensures

pub loop-rest-preserved : goal.loop-rest-preserved
loop-rest-preserved c = going_on_lem c.loop-rest.invariant c.loop-rest-test.true c.end_of-end.ensures c.part_before.ensures (sym c.is.ensures ∙ c.if-not-is.false) c.part_after-behind.ensures c.end_of_clause-end_of_lines.ensures c.part_before-in-loop-rest.ensures c.rest_after-next.ensures c.add_clause-length.ensures.value c.add_clause-length.ensures.fronts

pub shape_of-out : goal.shape_of-out
shape_of-out c = c.loop-rest.invariant.room

pub returns : goal.returns
returns c = both (
    going-last c.loop-rest.invariant c.loop-rest-test.false
    )

-- `event_sheets::run_lines`: what is left of the sheet, run from here on, makes the run of the whole sheet. The measure is the
-- length of what is left. Assumes nothing.
use Prim.Native.Nat.{◌≤◌}
use mathlib.Core.Path.{refl, ap, sym, ◌∙◌}
use native.Mathlib.Omega.{arith}
use lib.ListN.{length}
use lib.Seq.{length-take-le}
use borrow.Author.Rules.{rules}
use Rattle.split.specs.SplitLaws.{drop_shorter}
use Rattle.printing.specs.PrintingLaws.{printed-length}
use Rattle.answers.specs.AnswersLaws.{answer_short}
use Rattle.event_sheets.specs.RunningLaws.{going-first, going-last, going-refused, going_on_lem}
use Rattle.event_sheets.proofs.run_lines.Goals as goal

-- a pair as the two clauses
both : {A B : Type 0} → A × B → record { value : A; out_after : B }
both w = record { value = w.0; out_after = w.1 }

pub loop-end-init : goal.loop-end-init
loop-end-init c = (going-first _ _ _ c.fresh-state.ensures c.end_of-end.ensures, c.requires.sheet_in_bounds, refl)

pub carry_line-acted-requires : goal.carry_line-acted-requires
carry_line-acted-requires c =
    let l = c.loop-end in
    let short : l.end ≤ length l.rest.now = omega (arith, c.loop-end-test.true) in
    omega (arith, ap length c.part_before.ensures, length-take-le l.end l.rest.now short, l.invariant.1, l.invariant.2)

pub shape_of-list-then-is_some : goal.shape_of-list-then-is_some
shape_of-list-then-is_some c = c.list-1.given ∙ c.loop-end.invariant.2

pub shape_of-out-then-is_some : goal.shape_of-out-then-is_some
shape_of-out-then-is_some c = c.loop-end.invariant.0.room

pub returns-then-is_some : goal.returns-then-is_some
returns-then-is_some c = both (
    going-refused c.loop-end.invariant.0 c.loop-end-test.true c.part_before.ensures c.carry_line-acted.ensures (sym c.is_some.ensures ∙ c.if-is_some.true)
    )

pub overflow_add-length : goal.overflow_add-length
overflow_add-length c =
    let r = c.carry_line-acted.result in
    let g = c.loop-end.invariant.0 in
    omega (arith, c.add_answer-adding.ensures.counted, answer_short r.code r.at, g.short, g.lines, c.requires.sheet_len_bound)

pub overflow_add-number : goal.overflow_add-number
overflow_add-number c = omega (arith, c.loop-end.invariant.0.lines, c.requires.sheet_len_bound)

pub loop-end-smaller : goal.loop-end-smaller
loop-end-smaller c =
    let l = c.loop-end in
    omega (arith, ap length c.part_after-next.ensures, drop_shorter l.end l.rest.now c.loop-end-test.true)

pub loop-end-preserved : goal.loop-end-preserved
loop-end-preserved c =
    let l = c.loop-end in (
      going_on_lem l.invariant.0 c.loop-end-test.true c.part_before.ensures c.carry_line-acted.ensures (sym c.is_some.ensures ∙ c.if-is_some.false) c.add_answer-adding.ensures c.part_after-next.ensures c.end_of-end-in-loop-end.ensures,
      omega (arith, ap length c.part_after-next.ensures, drop_shorter l.end l.rest.now c.loop-end-test.true, l.invariant.1),
      search rules,
    )

pub finish-requires : goal.finish-requires
finish-requires c = omega (arith, c.loop-end.invariant.0.short, c.loop-end.invariant.0.lines, c.requires.sheet_len_bound)

pub shape_of-list : goal.shape_of-list
shape_of-list c = c.loop-end.invariant.2

pub shape_of-out : goal.shape_of-out
shape_of-out c = ap length c.finish.ensures.out_after ∙ printed-length _ _ _ ∙ c.loop-end.invariant.0.room

pub returns : goal.returns
returns c = both (
    going-last c.loop-end.invariant.0 c.loop-end-test.false c.finish.ensures.value c.finish.ensures.out_after
    )

-- `bundles::answer`: each way of the code is a case of the definition. Assumes nothing.
use Prim.Native.Nat.{◌-◌}
use mathlib.Core.Path.{◌≡◌, refl, sym, ◌∙◌}
use native.Mathlib.Omega.{arith}
use borrow.Author.Rules.{rules}
use Rattle.bundles.specs.BundlesLaws.{answer-before, answer-refused, answer_longer, answer_copied, answer-again}
use Rattle.bundles.specs.RunningLaws.{bundle-begins}
use Rattle.bundles.proofs.answer.Goals as goal

-- a pair as the two clauses
both : {A B : Type 0} → A × B → record { value : A; out_after : B }
both w = record { value = w.0; out_after = w.1 }

pub returns-in-Some : goal.returns-in-Some
returns-in-Some c = both (
    answer-before _ _ c.refusal_before.ensures c.in-Some.is
    )

pub run_clauses-run-requires : goal.run_clauses-run-requires
run_clauses-run-requires c = let b = bundle-begins c.args.bundle.now (sym c.refusal_before.ensures ∙ c.in_default.is) in record { fits_a_sheet = b.short; ends_a_line = b.ended; begins_a_clause = b.begun }

pub returns-in-Some-refusal : goal.returns-in-Some-refusal
returns-in-Some-refusal c = both (
    answer-refused _ _ (bundle-begins c.args.bundle.now (sym c.refusal_before.ensures ∙ c.in_default.is)) c.run_clauses-run.ensures.value c.in-Some-refusal.is
    )

pub returns-then-out-length : goal.returns-then-out-length
returns-then-out-length c = both (
    answer_longer _ _ (bundle-begins c.args.bundle.now (sym c.refusal_before.ensures ∙ c.in_default.is)) c.run_clauses-run.ensures.value c.in_default-refusal.is c.if-out-length.true
    )

pub returns-then-length-le-SHEET_BYTES : goal.returns-then-length-le-SHEET_BYTES
returns-then-length-le-SHEET_BYTES c = both (
    answer_copied _ _ (bundle-begins c.args.bundle.now (sym c.refusal_before.ensures ∙ c.in_default.is)) c.run_clauses-run.ensures.value c.in_default-refusal.is c.if-out-length.false _ (search (rules, c.if-length-le-SHEET_BYTES.true)) c.run_clauses-run.ensures.fronts c.part_before.ensures c.put_word.ensures.bytes
    )

pub run_clauses-requires : goal.run_clauses-requires
run_clauses-requires c = let b = bundle-begins c.args.bundle.now (sym c.refusal_before.ensures ∙ c.in_default.is) in record { fits_a_sheet = b.short; ends_a_line = b.ended; begins_a_clause = b.begun }

pub returns : goal.returns
returns c = both (
    let sized : c.run_clauses-run.result.length - 0 ≡ c.run_clauses-run.result.length = omega arith in
    answer-again _ _ (bundle-begins c.args.bundle.now (sym c.refusal_before.ensures ∙ c.in_default.is)) c.run_clauses-run.ensures.value c.in_default-refusal.is c.if-out-length.false sized c.run_clauses.ensures.value c.run_clauses.ensures.fronts refl
    )

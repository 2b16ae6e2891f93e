-- `bundles::refusal_before`: each test is one of the definition, in its order. Assumes nothing.
use Prim.Native.Nat.{◌-◌, ◌≤◌}
use mathlib.Core.Path.{ap, sym, ◌∙◌, ◌≡◌}
use mathlib.Core.Bool.{not}
use lib.ListN.{length}
use borrow.Author.Rules.{rules}
use Rattle.std.specs.Prelude.{get_or}
use Rattle.split.specs.Split.{line_feed}
use Rattle.bundles.specs.RunningLaws.{before_full, before_unended, before_stray, before-none, unended_last, ended-last, ended-empty, stray_clause, stray_empty}
use Rattle.bundles.proofs.refusal_before.Goals as goal

pub returns-then-bundle-gt-SHEET_BYTES : goal.returns-then-bundle-gt-SHEET_BYTES
returns-then-bundle-gt-SHEET_BYTES c = before_full _ c.if-bundle-gt-SHEET_BYTES.true

pub returns-in-empty : goal.returns-in-empty
returns-in-empty c = let none : length c.args.bundle.now ≤ 0 = search (rules, c.in-empty.len_below) in before-none _ c.if-bundle-gt-SHEET_BYTES.false (ended-empty _ none) (stray_empty _ none)

pub returns-in_default : goal.returns-in_default
returns-in_default c = before_unended _ c.if-bundle-gt-SHEET_BYTES.false (unended_last _ c.in_default.len_at_least (search rules))

pub returns-then-is_clause : goal.returns-then-is_clause
returns-then-is_clause c = let last : get_or c.args.bundle.now (length c.args.bundle.now - 1) 0 ≡ line_feed = search rules in let ended = ended-last _ c.in-10.len_at_least last in before-none _ c.if-bundle-gt-SHEET_BYTES.false ended (stray_clause _ ended c.in-10.len_at_least c.end_of-end.ensures c.part_before.ensures ∙ ap not (sym c.is_clause.ensures ∙ c.if-is_clause.true))

pub returns-else-is_clause : goal.returns-else-is_clause
returns-else-is_clause c = let last : get_or c.args.bundle.now (length c.args.bundle.now - 1) 0 ≡ line_feed = search rules in let ended = ended-last _ c.in-10.len_at_least last in before_stray _ c.if-bundle-gt-SHEET_BYTES.false ended (stray_clause _ ended c.in-10.len_at_least c.end_of-end.ensures c.part_before.ensures ∙ ap not (sym c.is_clause.ensures ∙ c.if-is_clause.false))

-- `event_lines::bare_line`: no field is left, or one is. Assumes nothing.
use Rattle.std.proofs.Common.{sym, ◌∙◌, eqb-true}
use Rattle.std.proofs.lemmas.Bool.{eqb-false}
use Rattle.event_lines.specs.ReadLaws.{bare_none, bare_some}
use Rattle.event_lines.proofs.bare_line.Goals as goal

pub returns-then-is_empty : goal.returns-then-is_empty
returns-then-is_empty c =
    let a = c.args in
    c.bare_said.ensures ∙ sym (bare_none a.code a.rest.now (eqb-true _ 0 (sym c.is_empty.ensures ∙ c.if-is_empty.true)))

pub returns : goal.returns
returns c = let a = c.args in sym (bare_some a.code a.rest.now (eqb-false _ 0 (sym c.is_empty.ensures ∙ c.if-is_empty.false)))

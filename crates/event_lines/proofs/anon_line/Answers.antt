-- `event_lines::anon_line`: no field is left, or one is. Assumes nothing.
use Rattle.std.proofs.Common.{sym, ◌∙◌, eqb-true}
use Rattle.std.proofs.lemmas.Bool.{eqb-false}
use Rattle.event_lines.specs.ReadLaws.{end_none, end-some}
use Rattle.event_lines.proofs.anon_line.Goals as goal

pub returns-then-is_empty : goal.returns-then-is_empty
returns-then-is_empty c =
    c.alone.ensures ∙ sym (end_none _ c.args.rest.now (eqb-true _ 0 (sym c.is_empty.ensures ∙ c.if-is_empty.true)))

pub returns : goal.returns
returns c = sym (end-some _ c.args.rest.now (eqb-false _ 0 (sym c.is_empty.ensures ∙ c.if-is_empty.false)))

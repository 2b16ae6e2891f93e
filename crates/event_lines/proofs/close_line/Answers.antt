-- `event_lines::close_line`: the depth is the next field, and the variables are left behind it. Assumes nothing.
use Rattle.std.specs.Prelude.{◌≡◌, option_map}
use Rattle.std.proofs.Common.{sym, ◌∙◌, rules}
use Rattle.events.specs.declared.Event.TheVariants.{Close}
use Rattle.event_lines.specs.ReadLaws.{close-step, close_list-step}
use Rattle.event_lines.proofs.close_line.Goals as goal

pub returns-in_err-depth : goal.returns-in_err-depth
returns-in_err-depth c =
    let rest = c.args.rest.now in
    let none = simp (c.field.ensures, c.end_of_field-end.ensures) at c.in_err-depth.ensures in (record {
      value = c.from_residual.ensures ∙ sym (close-step rest ∙ simp (← none));
      list_after = simp
          (c.read_list-variables.ensures.list_after, c.rest_after.ensures, c.end_of_field-end.ensures, close_list-step rest);
    })

pub returns : goal.returns
returns c =
    let rest = c.args.rest.now in
    let depth = simp (c.field.ensures, c.end_of_field-end.ensures) at c.in_ok-depth.ensures in
    let variables = simp (c.rest_after.ensures, c.end_of_field-end.ensures) at c.read_list-variables.ensures.value in
    let made : c.map.result ≡ option_map (λ n. record { event = Close c.in_ok-depth.depth; entries = n }) c.read_list-variables.result =
    search rules
    in (record {
      value = made ∙ simp variables (sym (close-step rest ∙ simp (← depth)));
      list_after = simp
          (c.read_list-variables.ensures.list_after, c.rest_after.ensures, c.end_of_field-end.ensures, close_list-step rest);
    })

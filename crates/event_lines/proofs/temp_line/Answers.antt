-- `event_lines::temp_line`: context and occurrences are the next fields, and the uses are left behind them. Assumes nothing.
use Rattle.std.specs.Prelude.{◌≡◌, option_map}
use Rattle.std.proofs.Common.{sym, ◌∙◌, rules}
use Rattle.events.specs.declared.Event.TheVariants.{Temp}
use Rattle.event_lines.specs.ReadLaws.{temp_step, temp_list-step}
use Rattle.event_lines.proofs.temp_line.Goals as goal

pub returns-in_err-context : goal.returns-in_err-context
returns-in_err-context c =
    let rest = c.args.rest.now in
    let second = simp c.end_of_field-context_end.ensures at c.rest_after-from_count.ensures in
    let none = simp (c.field.ensures, c.end_of_field-context_end.ensures) at c.in_err-context.ensures in (record {
      value = c.from_residual.ensures ∙ sym (temp_step rest ∙ simp (← none));
      list_after = simp
          (c.read_uses-uses.ensures.list_after, c.rest_after.ensures, c.end_of_field-count_end.ensures, second, temp_list-step rest);
    })

pub returns-in_err-occurrences : goal.returns-in_err-occurrences
returns-in_err-occurrences c =
    let rest = c.args.rest.now in
    let second = simp c.end_of_field-context_end.ensures at c.rest_after-from_count.ensures in
    let context = simp (c.field.ensures, c.end_of_field-context_end.ensures) at c.in_ok-context.ensures in
    let none = simp (c.field-2.ensures, c.end_of_field-count_end.ensures, second) at c.in_err-occurrences.ensures in (record {
      value = c.from_residual-in_err-occurrences.ensures ∙ sym (temp_step rest ∙ simp (← context, ← none));
      list_after = simp
          (c.read_uses-uses.ensures.list_after, c.rest_after.ensures, c.end_of_field-count_end.ensures, second, temp_list-step rest);
    })

pub returns : goal.returns
returns c =
    let rest = c.args.rest.now in
    let second = simp c.end_of_field-context_end.ensures at c.rest_after-from_count.ensures in
    let context = simp (c.field.ensures, c.end_of_field-context_end.ensures) at c.in_ok-context.ensures in
    let occurrences = simp (c.field-2.ensures, c.end_of_field-count_end.ensures, second) at c.in_ok-occurrences.ensures in
    let uses = simp (c.rest_after.ensures, c.end_of_field-count_end.ensures, second) at c.read_uses-uses.ensures.value in
    let made : c.map.result ≡ option_map (λ n. record { event = Temp c.in_ok-context.context c.in_ok-occurrences.occurrences; entries = n }) c.read_uses-uses.result =
    search rules
    in (record {
      value = made ∙ simp uses (sym (temp_step rest ∙ simp (← context, ← occurrences)));
      list_after = simp
          (c.read_uses-uses.ensures.list_after, c.rest_after.ensures, c.end_of_field-count_end.ensures, second, temp_list-step rest);
    })

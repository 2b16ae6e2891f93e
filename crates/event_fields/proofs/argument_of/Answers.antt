-- `event_fields::argument_of`: each way of the code is a case of the definition. Assumes nothing.
use Rattle.std.specs.Prelude.{◌≡◌, option_map}
use Rattle.std.proofs.Common.{◌∙◌, rules}
use Rattle.event_fields.specs.EventFields.{argument_of, variable_entry}
use Rattle.event_fields.proofs.argument_of.Goals as goal

pub returns-then-is : goal.returns-then-is
unfolding argument_of
returns-then-is c = simp (← c.is.ensures, c.if-is.true)

pub returns : goal.returns
unfolding argument_of
returns c =
    let made : c.map.result ≡ option_map variable_entry c.read.result = search rules in
    made ∙ simp (← c.is.ensures, c.if-is.false, c.read.ensures)

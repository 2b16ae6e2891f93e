-- `answers::add_end`: the text is put into the scratch, where it fits, and copied on from there. Assumes nothing.
use borrow.Author.Rules.{rules}
use Rattle.answers.specs.AnswersLaws.{end_short, added_on}
use Rattle.answers.proofs.add_end.Goals as goal

pub returns : goal.returns
returns c =
    let a = c.args in
    added_on
    (search (rules, end_short a.max_reg_allocated a.num_perm_vars))
    c.put_end-length.ensures
    c.add.ensures

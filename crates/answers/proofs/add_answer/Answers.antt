-- `answers::add_answer`: the text is put into the scratch, where it fits, and copied on from there. Assumes nothing.
use borrow.Author.Rules.{rules}
use Rattle.answers.specs.AnswersLaws.{answer_short, added_on}
use Rattle.answers.proofs.add_answer.Goals as goal

pub returns : goal.returns
returns c =
    let a = c.args in
    added_on
    (search (rules, answer_short a.code a.place))
    c.put_answer-length.ensures
    c.add.ensures

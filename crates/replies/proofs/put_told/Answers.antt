-- `replies::put_told`: a count is answered as it is, and a refusal's line is put. Assumes nothing.
use borrow.Author.Rules.{rules}
use Rattle.replies.specs.RepliesLaws.{refused_printable, refused-told, written-told}
use Rattle.replies.proofs.put_told.Goals as goal

pub overflow_cast-refused : goal.overflow_cast-refused
overflow_cast-refused c =
    search (rules, refused_printable c.in-Err.is c.requires)

pub returns-in-Ok : goal.returns-in-Ok
returns-in-Ok c = written-told c.in-Ok.is _

pub returns-in-Err : goal.returns-in-Err
returns-in-Err c =
    refused-told c.in-Err.is (rw (← c.number.ensures) c.put_refusal.ensures)

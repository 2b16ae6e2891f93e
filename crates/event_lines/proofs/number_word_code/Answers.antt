-- `event_lines::number_word_code`: one test after the other, as the number is defined. Assumes nothing.
use Rattle.event_lines.specs.Words.{line_words}
use Rattle.event_lines.specs.WordsLaws.{code_here, code_on}
use Rattle.event_lines.proofs.number_word_code.Goals as goal

pub returns-then-is : goal.returns-then-is
unfolding line_words
returns-then-is c = search (code_here, code_on) depth 10

pub returns-then-is-2 : goal.returns-then-is-2
unfolding line_words
returns-then-is-2 c = search (code_here, code_on) depth 10

pub returns-then-is-3 : goal.returns-then-is-3
unfolding line_words
returns-then-is-3 c = search (code_here, code_on) depth 10

pub returns-then-is-4 : goal.returns-then-is-4
unfolding line_words
returns-then-is-4 c = search (code_here, code_on) depth 10

pub returns-then-is-5 : goal.returns-then-is-5
unfolding line_words
returns-then-is-5 c = search (code_here, code_on) depth 10

pub returns-then-is-6 : goal.returns-then-is-6
unfolding line_words
returns-then-is-6 c = search (code_here, code_on) depth 10

pub returns-then-is-7 : goal.returns-then-is-7
unfolding line_words
returns-then-is-7 c = search (code_here, code_on) depth 10

pub returns-then-is-8 : goal.returns-then-is-8
unfolding line_words
returns-then-is-8 c =
    code_on _ _ _ _ c.is.ensures c.if-is.false
    (code_on _ _ _ _ c.is-2.ensures c.if-is-2.false
    (code_on _ _ _ _ c.is-3.ensures c.if-is-3.false
    (code_on _ _ _ _ c.is-4.ensures c.if-is-4.false
    (code_on _ _ _ _ c.is-5.ensures c.if-is-5.false
    (code_on _ _ _ _ c.is-6.ensures c.if-is-6.false
    (code_on _ _ _ _ c.is-7.ensures c.if-is-7.false
    (code_here _ _ _ _ c.is-8.ensures c.if-is-8.true)))))))

pub returns-then-is-9 : goal.returns-then-is-9
unfolding line_words
returns-then-is-9 c =
    code_on _ _ _ _ c.is.ensures c.if-is.false
    (code_on _ _ _ _ c.is-2.ensures c.if-is-2.false
    (code_on _ _ _ _ c.is-3.ensures c.if-is-3.false
    (code_on _ _ _ _ c.is-4.ensures c.if-is-4.false
    (code_on _ _ _ _ c.is-5.ensures c.if-is-5.false
    (code_on _ _ _ _ c.is-6.ensures c.if-is-6.false
    (code_on _ _ _ _ c.is-7.ensures c.if-is-7.false
    (code_on _ _ _ _ c.is-8.ensures c.if-is-8.false
    (code_here _ _ _ _ c.is-9.ensures c.if-is-9.true))))))))

pub returns : goal.returns
unfolding line_words
returns c =
    code_on _ _ _ _ c.is.ensures c.if-is.false
    (code_on _ _ _ _ c.is-2.ensures c.if-is-2.false
    (code_on _ _ _ _ c.is-3.ensures c.if-is-3.false
    (code_on _ _ _ _ c.is-4.ensures c.if-is-4.false
    (code_on _ _ _ _ c.is-5.ensures c.if-is-5.false
    (code_on _ _ _ _ c.is-6.ensures c.if-is-6.false
    (code_on _ _ _ _ c.is-7.ensures c.if-is-7.false
    (code_on _ _ _ _ c.is-8.ensures c.if-is-8.false
    (code_on _ _ _ _ c.is-9.ensures c.if-is-9.false
    c.other_word_code.ensures))))))))

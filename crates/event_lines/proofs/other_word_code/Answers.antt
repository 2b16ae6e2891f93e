-- `event_lines::other_word_code`: one test after the other, as the number is defined. Assumes nothing.
use Rattle.event_lines.specs.Words.{line_words}
use Rattle.event_lines.specs.WordsLaws.{code_here, code_on, code-none}
use Rattle.event_lines.proofs.other_word_code.Goals as goal

pub returns-then-is : goal.returns-then-is
unfolding line_words
returns-then-is c = search (code_here, code_on) depth 8

pub returns-then-is-2 : goal.returns-then-is-2
unfolding line_words
returns-then-is-2 c = search (code_here, code_on) depth 8

pub returns-then-is-3 : goal.returns-then-is-3
unfolding line_words
returns-then-is-3 c = search (code_here, code_on) depth 8

pub returns-then-is-4 : goal.returns-then-is-4
unfolding line_words
returns-then-is-4 c = search (code_here, code_on) depth 8

pub returns-then-is-5 : goal.returns-then-is-5
unfolding line_words
returns-then-is-5 c = search (code_here, code_on) depth 8

pub returns-then-is-6 : goal.returns-then-is-6
unfolding line_words
returns-then-is-6 c = search (code_here, code_on) depth 8

pub returns-then-is-7 : goal.returns-then-is-7
unfolding line_words
returns-then-is-7 c = search (code_here, code_on) depth 8

pub returns : goal.returns
unfolding line_words
returns c = search (code_on, code-none) depth 8

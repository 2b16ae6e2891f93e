-- `event_lines::word_code`: one test after the other, as the number is defined. Assumes nothing.
use Rattle.event_lines.specs.Words.{line_words}
use Rattle.event_lines.specs.Reading.{word_code}
use Rattle.event_lines.specs.WordsLaws.{code_here, code_on}
use Rattle.event_lines.proofs.word_code.Goals as goal

pub returns-then-is : goal.returns-then-is
unfolding word_code line_words
returns-then-is c = search (code_here, code_on) depth 7

pub returns-then-is-2 : goal.returns-then-is-2
unfolding word_code line_words
returns-then-is-2 c = search (code_here, code_on) depth 7

pub returns-then-is-3 : goal.returns-then-is-3
unfolding word_code line_words
returns-then-is-3 c = search (code_here, code_on) depth 7

pub returns-then-is-4 : goal.returns-then-is-4
unfolding word_code line_words
returns-then-is-4 c = search (code_here, code_on) depth 7

pub returns-then-is-5 : goal.returns-then-is-5
unfolding word_code line_words
returns-then-is-5 c = search (code_here, code_on) depth 7

pub returns-then-is-6 : goal.returns-then-is-6
unfolding word_code line_words
returns-then-is-6 c = search (code_here, code_on) depth 7

pub returns : goal.returns
unfolding word_code line_words
returns c = search code_on depth 7

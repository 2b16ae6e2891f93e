-- `instructions::put_name`: each number has its word, and none is left for the last arm. Assumes nothing.
use Rattle.instructions.specs.Codes.{word_of}
use Rattle.instructions.proofs.put_name.Goals as goal

pub returns-in-0 : goal.returns-in-0
unfolding word_of
returns-in-0 c = rw c.in-0.is c.put_word.ensures

pub returns-in-1 : goal.returns-in-1
unfolding word_of
returns-in-1 c = rw c.in-1.is c.put_word-in-1.ensures

pub returns-in-2 : goal.returns-in-2
unfolding word_of
returns-in-2 c = rw c.in-2.is c.put_word-in-2.ensures

pub returns-in-3 : goal.returns-in-3
unfolding word_of
returns-in-3 c = rw c.in-3.is c.put_word-in-3.ensures

pub returns-in-4 : goal.returns-in-4
unfolding word_of
returns-in-4 c = rw c.in-4.is c.put_word-in-4.ensures

pub returns-in-5 : goal.returns-in-5
unfolding word_of
returns-in-5 c = rw c.in-5.is c.put_word-in-5.ensures

pub returns-in-6 : goal.returns-in-6
unfolding word_of
returns-in-6 c = rw c.in-6.is c.put_word-in-6.ensures

pub returns-in-7 : goal.returns-in-7
unfolding word_of
returns-in-7 c = rw c.in-7.is c.put_word-in-7.ensures

pub returns-in-8 : goal.returns-in-8
unfolding word_of
returns-in-8 c = rw c.in-8.is c.put_word-in-8.ensures

pub returns-in-9 : goal.returns-in-9
unfolding word_of
returns-in-9 c = rw c.in-9.is c.put_word-in-9.ensures

pub returns-in-10 : goal.returns-in-10
unfolding word_of
returns-in-10 c = rw c.in-10.is c.put_word-in-10.ensures

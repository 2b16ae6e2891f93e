-- `check_lines::place_word_code`: each way of the code is a case of the definition. Assumes nothing.
use Rattle.words.specs.Words.{code_among}
use Rattle.check_lines.proofs.place_word_code.Goals as goal

pub returns-then-is : goal.returns-then-is
unfolding code_among
returns-then-is c = simp (← c.is.ensures, c.if-is.true)

pub returns-then-is-2 : goal.returns-then-is-2
unfolding code_among
returns-then-is-2 c =
    simp (
      ← c.is.ensures,
      c.if-is.false,
      ← c.is-2.ensures,
      c.if-is-2.true,
    )

pub returns-then-is-3 : goal.returns-then-is-3
unfolding code_among
returns-then-is-3 c =
    simp (
      ← c.is.ensures,
      c.if-is.false,
      ← c.is-2.ensures,
      c.if-is-2.false,
      ← c.is-3.ensures,
      c.if-is-3.true,
    )

pub returns-then-is-4 : goal.returns-then-is-4
unfolding code_among
returns-then-is-4 c =
    simp (
      ← c.is.ensures,
      c.if-is.false,
      ← c.is-2.ensures,
      c.if-is-2.false,
      ← c.is-3.ensures,
      c.if-is-3.false,
      ← c.is-4.ensures,
      c.if-is-4.true,
    )

pub returns-then-is-5 : goal.returns-then-is-5
unfolding code_among
returns-then-is-5 c =
    simp (
      ← c.is.ensures,
      c.if-is.false,
      ← c.is-2.ensures,
      c.if-is-2.false,
      ← c.is-3.ensures,
      c.if-is-3.false,
      ← c.is-4.ensures,
      c.if-is-4.false,
      ← c.is-5.ensures,
      c.if-is-5.true,
    )

pub returns-then-is-6 : goal.returns-then-is-6
unfolding code_among
returns-then-is-6 c =
    simp (
      ← c.is.ensures,
      c.if-is.false,
      ← c.is-2.ensures,
      c.if-is-2.false,
      ← c.is-3.ensures,
      c.if-is-3.false,
      ← c.is-4.ensures,
      c.if-is-4.false,
      ← c.is-5.ensures,
      c.if-is-5.false,
      ← c.is-6.ensures,
      c.if-is-6.true,
    )

pub returns : goal.returns
unfolding code_among
returns c =
    simp (
      ← c.is.ensures,
      c.if-is.false,
      ← c.is-2.ensures,
      c.if-is-2.false,
      ← c.is-3.ensures,
      c.if-is-3.false,
      ← c.is-4.ensures,
      c.if-is-4.false,
      ← c.is-5.ensures,
      c.if-is-5.false,
      ← c.is-6.ensures,
      c.if-is-6.false,
    )
